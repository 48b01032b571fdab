-- A text read byte by byte.
use Rattle.std.proofs.Common.{◌≡◌, ℕ, ◌+◌, ◌<◌, ◌≤◌, List, length, get_or, drop, ℤ, Some, None, Option, Ok, Err, sym, refl, ◌∙◌, ap₂, add-one, arith, drop-cons}
use Rattle.std.proofs.lemmas.List.{drop_all}
use Rattle.word_text.specs.declared.scan.Place.{Place}
use Rattle.word_text.specs.declared.scan.Progress.{Progress}
use Rattle.word_text.specs.declared.scan.ScanError.TheVariants.{NotNumbers}
use Rattle.word_text.specs.Scan.{stepped, goes_on, scanned, Advances}

pub at_byte : (text : List ℕ) (i : ℕ) (p : Place) (zs : List ℤ) → i < length text →
    scanned (drop i text) p zs ≡ goes_on (scanned (drop (i + 1) text)) (stepped p (get_or text i 0)) zs
unfolding scanned
at_byte text i p zs within = rw (add-one, drop-cons text i 0)

pub at_end : (text : List ℕ) (i : ℕ) (p : Place) (zs : List ℤ) → length text ≤ i →
    scanned (drop i text) p zs ≡ goes_on (λ q us. Some us) (stepped p 32) zs
unfolding scanned
at_end text i p zs beyond = rw (drop_all i text beyond)

pub ruleset scan_steps = (at_byte, at_end)

goes_nowhere : (go : Place → List ℤ → Option (List ℤ)) (s : Option Progress) (zs ws : List ℤ) → Advances s zs (Err NotNumbers) ws → goes_on go s zs ≡ None
goes_nowhere go None zs ws a = refl
goes_nowhere go (Some s) zs ws a = let z : ◌≡◌ {A = ℕ} 0 1 = cc a.0 in absurd (omega arith)

goes_to : (go : Place → List ℤ → Option (List ℤ)) (s : Option Progress) (zs ws : List ℤ) (q : Place) → Advances s zs (Ok q) ws → goes_on go s zs ≡ go q ws
goes_to go None zs ws q a = absurd a
goes_to go (Some s) zs ws q a = ap₂ go (sym a.0) (sym a.1)

-- the byte at i
module _ (text : List ℕ) (i : ℕ) (within : i < length text) (p : Place) (zs ws : List ℤ) where
  pub refused_inside : Advances (stepped p (get_or text i 0)) zs (Err NotNumbers) ws → scanned (drop i text) p zs ≡ None
  refused_inside a = at_byte text i p zs within ∙ goes_nowhere (scanned (drop (i + 1) text)) (stepped p (get_or text i 0)) zs ws a

  pub read-inside : (q : Place) → Advances (stepped p (get_or text i 0)) zs (Ok q) ws → scanned (drop i text) p zs ≡ scanned (drop (i + 1) text) q ws
  read-inside q a = at_byte text i p zs within ∙ goes_to (scanned (drop (i + 1) text)) (stepped p (get_or text i 0)) zs ws q a

-- the end of the text
module _ (text : List ℕ) (i : ℕ) (beyond : length text ≤ i) (p : Place) (zs ws : List ℤ) where
  pub refused_at_end : Advances (stepped p 32) zs (Err NotNumbers) ws → scanned (drop i text) p zs ≡ None
  refused_at_end a = at_end text i p zs beyond ∙ goes_nowhere (λ q us. Some us) (stepped p 32) zs ws a

  pub read_at_end : (q : Place) → Advances (stepped p 32) zs (Ok q) ws → scanned (drop i text) p zs ≡ Some ws
  read_at_end q a = at_end text i p zs beyond ∙ goes_to (λ q us. Some us) (stepped p 32) zs ws q a
