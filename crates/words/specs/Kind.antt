-- The numbers of the kinds. Assumes nothing.
use Rattle.std.specs.Prelude.{cond, ℤ, pos, negsuc, Some, None, Option, ◌==◌}
use Rattle.words.specs.declared.kind.Kind.{Kind}
use Rattle.words.specs.declared.kind.Kind.TheVariants.{BelowZero, EqualsZero, Not, And, Or, Variable, Number, Sum, Product}

-- 1 t: t is below zero; 2 t: t is zero; 3 p: not; 4 p q: and; 5 p q: or; and of terms, 6 i: variable i; 7 z: the number z; 8 s t: their sum; 9 s t: their product
abbrev pub kind_of : ℤ → Option Kind
kind_of (pos n) =
    cond (n == 1) (Some BelowZero) (cond (n == 2) (Some EqualsZero) (cond (n == 3) (Some Not) (cond (n == 4) (Some And)
    (cond (n == 5) (Some Or) (cond (n == 6) (Some Variable) (cond (n == 7) (Some Number) (cond (n == 8) (Some Sum)
    (cond (n == 9) (Some Product) None))))))))
kind_of (negsuc n) = None

-- the word of a kind
abbrev pub kind_word : Kind → ℤ
kind_word BelowZero = pos 1
kind_word EqualsZero = pos 2
kind_word Not = pos 3
kind_word And = pos 4
kind_word Or = pos 5
kind_word Variable = pos 6
kind_word Number = pos 7
kind_word Sum = pos 8
kind_word Product = pos 9
