-- A chain of tables, the innermost first: each takes the rows of the one before it, and a sink takes the last one's. `grow` is what the sink becomes when it takes a row. Assumes nothing.
use mathlib.Core.List.{List, [], ◌∷◌, map, foldl}
use Rattle.field.specs.declared.sign.Sign.{Sign}
use Rattle.stream.specs.Stage.{Stage, Outcome, Gap, Went, upon}
use Rattle.stream.specs.Step.{Cell, Clear, Far, stepped, closing, flow}

-- what the tables keep, and the sink
pub record State (A : Type 0) : Type 0 where
  pub cells : List Cell
  pub sink : A

-- rows pushed one after another
unfoldable pub pushed_all : {A : Type 0} → (List Cell → A → List Sign → Outcome (State A)) → List Cell → A → List (List Sign) → Outcome (State A)
pushed_all push cs a [] = Went (record { cells = cs; sink = a })
pushed_all push cs a (r ∷ m) = upon (push cs a r) (λ s. pushed_all push s.cells s.sink m)

-- a row pushed into the innermost table
unfoldable pub pushed : {A : Type 0} → (A → List Sign → A) → List Stage → List Cell → A → List Sign → Outcome (State A)
pushed grow [] cs a r = Went (record { cells = cs; sink = grow a r })
pushed grow (f ∷ fs) [] a r = Gap
pushed grow (f ∷ fs) (c ∷ cs) a r =
    upon (stepped f c r) (λ s. upon (pushed_all (pushed grow fs) cs a s.leaving) (λ t. Went (record { cells = s.cell ∷ t.cells; sink = t.sink })))

-- no more rows come: what the sink becomes as the tables close, the innermost first
unfoldable pub closed : {A : Type 0} → (A → List Sign → A) → List Stage → List Cell → A → Outcome A
closed grow [] cs a = Went a
closed grow (f ∷ fs) [] a = Gap
closed grow (f ∷ fs) (c ∷ cs) a =
    upon (closing f c) (λ out. upon (pushed_all (pushed grow fs) cs a out) (λ t. closed grow fs t.cells t.sink))

-- before the first row
abbrev pub fresh : List Stage → List Cell
fresh fs = map (λ _. Clear Far) fs

-- what the sink becomes when these rows come, and then no more
unfoldable pub meaning : {A : Type 0} → (A → List Sign → A) → List Stage → List Cell → A → List (List Sign) → Outcome A
meaning grow [] cs a m = Went (foldl grow a m)
meaning grow (f ∷ fs) [] a m = Gap
meaning grow (f ∷ fs) (c ∷ cs) a m = upon (flow f c m) (λ out. meaning grow fs cs a out)

-- a table of one row alone within all of these
abbrev pub run : {A : Type 0} → (A → List Sign → A) → List Stage → A → List Sign → Outcome A
run grow fs a r = upon (pushed grow fs (fresh fs) a r) (λ s. closed grow fs s.cells s.sink)
