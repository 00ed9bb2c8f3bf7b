-- Trials: what a trial keeps is told by its layer and its query.
use Rattle.std.proofs.Common.{◌≡◌, Option, ap, subst, Bor}
use Rattle.std.proofs.Props.{props}
use Rattle.model.specs.declared.source.Source.{Ghosts}
use Rattle.layers.specs.declared.hold.Hold.{Hold}
use Rattle.trial.specs.declared.state.QueryState.{QueryState}
use Rattle.trial.specs.declared.trial.Trial.{Trial}
use Rattle.trial.specs.Keeping.{Kept}

module _ (X : Type 0) (source : Ghosts X) (layer : Hold (Bor X)) where
  -- a trial with this layer is kept with a query, or with none
  abbrev pub KeptWith : Option QueryState → Type 0
  KeptWith = Kept (source.model layer.below.now) layer.held

  -- the trial of this layer and a query, or none
  abbrev pub trial_of : (o : Option QueryState) → KeptWith o → Trial X source
  trial_of o k = record { layer = layer; query = o; kept = k }

  -- that a trial is kept has one proof
  kept_once : (o : Option QueryState) (k k' : KeptWith o) → k ≡ k'
  kept_once o = Prim.hlevel props

  -- so trials of one layer with the same query are the same
  pub trial_same : (o o' : Option QueryState) (k : KeptWith o) (k' : KeptWith o') → o ≡ o' → trial_of o k ≡ trial_of o' k'
  trial_same o o' k k' e = subst (λ (p : Option QueryState). (j : KeptWith p) → trial_of o k ≡ trial_of p j) e (λ j. ap (trial_of o) (kept_once o k j)) k'
