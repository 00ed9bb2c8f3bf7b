-- Calls that are played one after another: what is so of those so far, and what follows where all are.
use Rattle.std.proofs.Common.{◌≡◌, ℕ, ◌+◌, ◌<◌, ◌≤◌, List, length, take, set, get_or, Some, None, Option, refl, sym, ◌∙◌, ap, below_more, ◌≢◌, arith}
use Rattle.std.specs.Prelude.{slice_get}
use Rattle.std.proofs.lemmas.Option.{slice_get-get_or, get_or_from_slice_get, slice_get_within}
use Rattle.std.proofs.lemmas.List.{take-set-le, get_or-set_same, get_or-set_other, length-set}
use Rattle.model.specs.Mdp.{Mdp, Lawful}
use Rattle.theory.specs.Ends.{held}
use Rattle.theory.proofs.WithoutSteps.{held_lawful}
use Rattle.rules.specs.declared.rounding.Rounding.TheVariants.{Down, Up}
use Rattle.trial.specs.Queries.{Query, marked}
use Rattle.trial.specs.Aims.{preference_of}
use Rattle.trial.proofs.PathRows.{end_within}
use Rattle.trial.proofs.Queries.{bounds_for}
use Rattle.replay.specs.declared.call.Call.{Call}
use Rattle.replay.specs.Standing.{Stands}
use Rattle.replay.specs.Replays.{Played, Means, Pair, Replayed}
use Rattle.replay.proofs.StandingQuery.{query_from, stands, only}

-- the first i calls were each made where the query stood that stands after those before it, and the others are as they were
pub record PlayedUpTo (m : Mdp) (before after : List Call) (i : ℕ) : Type 0 where
  pub played : (k : ℕ) → k < i → (o : Option Query) → Stands (take k after) o → (c d : Call) → slice_get before k ≡ Some c → slice_get after k ≡ Some d → Played m o c d
  pub meant : (k : ℕ) → k < i → (o : Option Query) → Stands (take k after) o → (d : Call) → slice_get after k ≡ Some d → Means m o d
  pub left : (k : ℕ) (d : Call) → i ≤ k → get_or after k d ≡ get_or before k d

-- none is played at first
pub none_played : (m : Mdp) (calls : List Call) → PlayedUpTo m calls calls 0
none_played m calls = record { played = λ k h o s c d e f. absurd (omega arith); meant = λ k h o s d f. absurd (omega arith); left = λ k d h. refl }

-- a write at i leaves what stands elsewhere
get_elsewhere : (cs : List Call) (i k : ℕ) (d e : Call) → k < i → slice_get (set cs i d) k ≡ Some e → slice_get cs k ≡ Some e
get_elsewhere cs i k d e h f =
    let other : k ≢ i = omega arith in
    let within : k < length cs = omega (arith, slice_get_within (set cs i d) k e f, length-set cs i d) in
    slice_get-get_or cs k e within ∙ ap Some (sym (get_or-set_other cs i k d e other) ∙ get_or_from_slice_get (set cs i d) k e e f)

module _ (m m' : Mdp) (before after : List Call) (i : ℕ) (o : Option Query) (b d : Call) (there : i < length after) where
  -- one more call is, where the model is told by another name
  pub played_more : m' ≡ m → PlayedUpTo m before after i → Stands (take i after) o → Played m' o (get_or after i b) d → Means m' o d → PlayedUpTo m before (set after i d) (i + 1)
  played_more same so_far stood played meant = record { played = below_more P i earlier here; meant = below_more Q i earlier_meant here_meant; left = λ k e h. others k e h (omega arith) }
    where
      P : ℕ → Type 0
      P k = (p : Option Query) → Stands (take k (set after i d)) p → (c e : Call) → slice_get before k ≡ Some c → slice_get (set after i d) k ≡ Some e → Played m p c e

      kept : (k : ℕ) → k ≤ i → (p : Option Query) → Stands (take k (set after i d)) p → Stands (take k after) p
      kept k h p s = rw (take-set-le k after i d h) at s

      earlier : (k : ℕ) → k < i → P k
      earlier k h p s c e f g = so_far.played k h p (kept k (omega arith) p s) c e f (get_elsewhere after i k d e h g)

      here : P i
      here p s c e f g =
          let query : p ≡ o = only (take i after) p (kept i (omega arith) p s) ∙ sym (only (take i after) o stood) in
          let call : c ≡ get_or after i b = sym (get_or_from_slice_get before i c b f) ∙ sym (so_far.left i b (omega arith)) in
          let answered : e ≡ d = sym (get_or_from_slice_get (set after i d) i e d g) ∙ get_or-set_same after i d d there in
          rw (← same, query, call, answered) played

      Q : ℕ → Type 0
      Q k = (p : Option Query) → Stands (take k (set after i d)) p → (e : Call) → slice_get (set after i d) k ≡ Some e → Means m p e

      earlier_meant : (k : ℕ) → k < i → Q k
      earlier_meant k h p s e g = so_far.meant k h p (kept k (omega arith) p s) e (get_elsewhere after i k d e h g)

      here_meant : Q i
      here_meant p s e g =
          let query : p ≡ o = only (take i after) p (kept i (omega arith) p s) ∙ sym (only (take i after) o stood) in
          let answered : e ≡ d = sym (get_or_from_slice_get (set after i d) i e d g) ∙ get_or-set_same after i d d there in
          rw (← same, query, answered) meant

      others : (k : ℕ) (e : Call) → i + 1 ≤ k → k ≢ i → get_or (set after i d) k e ≡ get_or before k e
      others k e h other = get_or-set_other after i k d e other ∙ so_far.left k e (omega arith)

module _ (m : Mdp) (l : Lawful m) where
  -- the pair of a query
  pair : (q : Query) (s : ℕ) → s < m.states → Pair m q s
  pair q s h = record {
    lower_within = end_within Down (preference_of q.aim) (held (marked q.left) (marked q.right) m) (held_lawful (marked q.left) (marked q.right) m l) (marked q.right) q.rounds s h;
    upper_within = end_within Up (preference_of q.aim) (held (marked q.left) (marked q.right) m) (held_lawful (marked q.left) (marked q.right) m l) (marked q.right) q.rounds s h;
    bounds = bounds_for m l q.aim q s h;
  }

  -- where all calls are played, that is the promise
  pub all_played : (before after : List Call) (n : ℕ) → length after ≡ length before → length after ≤ n → PlayedUpTo m before after n → Replayed m before after
  all_played before after n same end all = record {
    number = same;
    one_query = λ i h. record { query = query_from None (take i after); stands = stands (take i after); only = only (take i after) };
    played = λ i o s c d e f. all.played i (omega (arith, slice_get_within after i d f)) o s c d e f;
    meant = λ i o s d f. all.meant i (omega (arith, slice_get_within after i d f)) o s d f;
    pairs = λ i q stood s h. pair q s h;
  }
