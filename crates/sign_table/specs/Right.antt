-- What it is for a table of signs to be right, where the variables other than the first have the values e. Assumes nothing.
use Rattle.std.specs.Prelude.{◌≡◌, ◌⊎◌, List, [], ◌∷◌, map}
use Rattle.field.specs.declared.sign.Sign.{Sign}
use Rattle.field.specs.declared.sign.Sign.TheVariants.{Pos}
use Rattle.field.specs.Field.{RealClosedField}
use Rattle.roots.specs.Interval.{End, Open, At, Inside, Ordered}
use Rattle.poly.specs.Poly.{Poly}
use Rattle.poly.specs.Value.{value}

abbrev pub Member : {A : Type 0} → A → List A → Type 0
Member a [] = ⊥
Member a (x ∷ xs) = (a ≡ x) ⊎ Member a xs

-- the signs of the values of ps, where the variables have the values v
abbrev pub signs_at : {R : Type 0} → RealClosedField R → List Poly → List R → List Sign
signs_at f ps v = map (λ p. f.sign (value f p v)) ps

-- every number has its row
abbrev pub Covered : {R : Type 0} → RealClosedField R → List R → List Poly → List (List Sign) → Type 0
Covered {R} f e ps m = (x : R) → (row : List Sign) × Member row m × (signs_at f ps (x ∷ e) ≡ row)

-- every row has its number
abbrev pub Attained : {R : Type 0} → RealClosedField R → List R → List Poly → List (List Sign) → Type 0
Attained {R} f e ps m = (row : List Sign) → Member row m → (x : R) × (signs_at f ps (x ∷ e) ≡ row)

-- every number of the interval from l to r has to its row the relation P
abbrev pub OnInterval : {R A : Type 0} → RealClosedField R → (R → A → Type 0) → End R → End R → A → Type 0
OnInterval {R} f P l r row = (x : R) → Inside f Pos l r x → P x row

-- The rows are, in turn, of an interval, of the point where it ends, of the interval after that, and so on to the far right; the first interval starts at l.
-- Every number of an interval has to the interval's row the relation P, and every point has to its row the relation Q.
unfoldable pub Along : {R A : Type 0} → RealClosedField R → (P Q : R → A → Type 0) → End R → List A → Type 0
Along f P Q l [] = ⊥
Along f P Q l (i ∷ []) = OnInterval f P l Open i
Along {R} f P Q l (i ∷ x ∷ rs) = (c : R) × Ordered f Pos l (At c) × OnInterval f P l (At c) i × Q c x × Along f P Q (At c) rs

-- c is a root of one of the polynomials that isn't zero everywhere
abbrev pub SomeRoot : {R : Type 0} → RealClosedField R → List R → List Poly → R → Type 0
SomeRoot {R} f e ps c = (q : Poly) × Member q ps × (value f q (c ∷ e) ≡ f.zero) × ((x : R) × (value f q (x ∷ e) ≡ f.zero → ⊥))

abbrev pub HasSigns : {R : Type 0} → RealClosedField R → List R → List Poly → R → List Sign → Type 0
HasSigns f e ps x row = signs_at f ps (x ∷ e) ≡ row

abbrev pub RootWithSigns : {R : Type 0} → RealClosedField R → List R → List Poly → R → List Sign → Type 0
RootWithSigns f e ps c row = HasSigns f e ps c row × SomeRoot f e ps c

-- each row has the signs of all the polynomials, on the whole interval or at the point, and the points are such roots
abbrev pub Right : {R : Type 0} → RealClosedField R → List R → List Poly → List (List Sign) → Type 0
Right f e ps m = Along f (HasSigns f e ps) (RootWithSigns f e ps) Open m

-- the points, from left to right
unfoldable pub points_along : {R A : Type 0} → (f : RealClosedField R) → (P Q : R → A → Type 0) → (l : End R) → (m : List A) → Along f P Q l m → List R
unfolding Along
points_along f P Q l [] a = []
points_along f P Q l (i ∷ []) a = []
points_along f P Q l (i ∷ x ∷ rs) a = a.0 ∷ points_along f P Q (At a.0) rs a.4

abbrev pub points : {R : Type 0} → (f : RealClosedField R) → (e : List R) → (ps : List Poly) → (m : List (List Sign)) → Right f e ps m → List R
points f e ps m right = points_along f (HasSigns f e ps) (RootWithSigns f e ps) Open m right

-- the numbers rise strictly, from l on
abbrev pub Rising : {R : Type 0} → RealClosedField R → End R → List R → Type 0
Rising f l [] = Unit {0}
Rising f l (c ∷ cs) = Ordered f Pos l (At c) × Rising f (At c) cs
