-- Stored polynomials and their stretches as factors. Assumes nothing.
use Rattle.packed.specs.declared.view.View.{View}
use Rattle.packed.specs.declared.stretch.Stretch.{Stretch}
use Rattle.packed.specs.Terms.{terms_in}
use Rattle.packed.specs.StretchTerms.{stretch_terms}
use Rattle.packed.proofs.Lowered.{view-keys, view-sizes, view-short, stretch_keys, stretch_sizes, stretch_short}
use Rattle.wide.proofs.Multiplying.{Factor}

pub view-factor : (v : View) → Factor (terms_in v)
view-factor v = record { keys = view-keys v; sizes = view-sizes v; short = view-short v }

pub stretch_factor : (s : Stretch) → Factor (stretch_terms s)
stretch_factor s = record { keys = stretch_keys s; sizes = stretch_sizes s; short = stretch_short s }
