-- What a text of numbers reads as. A number has at most nine digits, perhaps after a minus; spaces and line ends part numbers. Assumes nothing.
use Rattle.std.specs.Prelude.{◌≡◌, ℕ, ◌+◌, ◌-◌, ◌*◌, Bool, false, true, cond, ◌||◌, List, [], ◌∷◌, ◌++◌, ℤ, pos, neg_ℤ, Some, None, Option, Ok, Err, Result, ◌==◌, nat_le, nat_lt}
use Rattle.word_text.specs.declared.scan.Numeral.{Numeral}
use Rattle.word_text.specs.declared.scan.ScanError.{ScanError}
use Rattle.word_text.specs.declared.scan.ScanError.TheVariants.{NotNumbers, OutOfMemory}
use Rattle.word_text.specs.declared.scan.Place.{Place}
use Rattle.word_text.specs.declared.scan.Place.TheVariants.{Between, Minus, Inside}
use Rattle.word_text.specs.declared.scan.Progress.{Progress}

abbrev pub number : Numeral → ℤ
number n = cond n.negative (neg_ℤ (pos n.size)) (pos n.size)

-- a space, a line feed, a carriage return
abbrev pub is_gap : ℕ → Bool
is_gap b = b == 32 || (b == 10 || b == 13)

abbrev pub moved : Place → Option Progress
moved p = Some (record { place = p; number = None })

abbrev pub digit_read : Numeral → ℕ → Option Progress
digit_read n b =
    cond (nat_lt b 48 || (nat_lt 57 b || nat_le 100000000 n.size)) None (moved (Inside (record { negative = n.negative; size = n.size * 10 + (b - 48) })))

-- no digit yet
abbrev pub blank : Bool → Numeral
blank negative = record { negative = negative; size = 0 }

abbrev pub stepped : Place → ℕ → Option Progress
stepped Between b = cond (is_gap b) (moved Between) (cond (b == 45) (moved Minus) (digit_read (blank false) b))
stepped Minus b = digit_read (blank true) b
stepped (Inside n) b = cond (is_gap b) (Some (record { place = Between; number = Some (number n) })) (digit_read n b)

abbrev pub grown : List ℤ → Option ℤ → List ℤ
grown zs None = zs
grown zs (Some z) = zs ++ (z ∷ [])

-- go: the numbers of what is left of the text
abbrev pub goes_on : (Place → List ℤ → Option (List ℤ)) → Option Progress → List ℤ → Option (List ℤ)
goes_on go None zs = None
goes_on go (Some s) zs = go s.place (grown zs s.number)

-- the numbers of a text from here on, these having been read before; it ends as if a space came after it
unfoldable pub scanned : List ℕ → Place → List ℤ → Option (List ℤ)
scanned [] p zs = goes_on (λ q ws. Some ws) (stepped p 32) zs
scanned (b ∷ bs) p zs = goes_on (scanned bs) (stepped p b) zs

-- the numbers of a text
abbrev pub numbers_of : List ℕ → Option (List ℤ)
numbers_of bs = scanned bs Between []

-- the place after a byte, and the numbers then; where memory ran out, nothing is said
abbrev pub Advances : Option Progress → List ℤ → Result Place ScanError → List ℤ → Type 0
Advances None zs (Ok q) ws = ⊥
Advances (Some s) zs (Ok q) ws = (q ≡ s.place) × (ws ≡ grown zs s.number)
Advances s zs (Err NotNumbers) ws = (s ≡ None) × (ws ≡ zs)
Advances s zs (Err (OutOfMemory e)) ws = Unit {0}
