-- What a reader's answer says where it stops, and where it goes on.
use Rattle.std.proofs.Common.{◌≡◌, ℕ, List, IsErrAnd, Ok, Err, Result, sym, ap, ◌∙◌}
use Rattle.std.specs.Result.{result_map_both}
use Rattle.grammar.specs.declared.fault.Fault.{Fault}
use Rattle.grammar.specs.Reader.{Reader, Refused, refusal_at, ◌>>=◌, run}
use Rattle.grammar.proofs.Runs.{stops}
use Rattle.text.specs.Outcome.{outcome_of}

-- a fault that is handed on
pub handed_on_lem : {A : Type 0} (r : Result A Fault) (e : Fault) (at : ℕ) → IsErrAnd r (λ y. y ≡ e) → Refused (refusal_at e at) ≡ outcome_of r at
handed_on_lem (Ok a) e at h = absurd h
handed_on_lem (Err y) e at h = ap (λ f. Refused (refusal_at f at)) (sym h)

-- a fault that is handed on by a call whose result stands for something else
pub handed_on_as : {A B : Type 0} (g : A → B) (r : Result A Fault) (e : Fault) (at : ℕ) → IsErrAnd r (λ y. y ≡ e) → Refused (refusal_at e at) ≡ outcome_of (result_map_both g (λ f. f) r) at
handed_on_as g (Ok a) e at h = absurd h
handed_on_as g (Err y) e at h = ap (λ f. Refused (refusal_at f at)) (sym h)

-- a reader whose first part refuses
pub stops_at : {A B : Type 0} (r : Reader A) (go : A → Reader B) (text : List ℕ) (i at : ℕ) (e : Fault) (x : Result B Fault) →
    run r text i ≡ Refused (refusal_at e at) → IsErrAnd x (λ y. y ≡ e) → run (r >>= go) text i ≡ outcome_of x at
stops_at r go text i at e x h q = stops r go text i (refusal_at e at) h ∙ handed_on_lem x e at q
