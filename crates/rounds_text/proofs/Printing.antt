-- What rounds answer and leave is what is printed of them.
use Rattle.std.proofs.Common.{◌≡◌, ℕ, Bool, true, cond, List, map, length, Some, Ok, Option, Result, Vec, vec_items, sym, ap, ap₂, ◌∙◌}
use Rattle.std.specs.declared.alloc.Global.{Global}
use Rattle.std.specs.Option.{option_map}
use Rattle.std.specs.Result.{result_map_both}
use Rattle.std.specs.List.{list_all}
use Rattle.std.proofs.lemmas.List.{length-map}
use Rattle.std.proofs.lemmas.List.FromFn.{length-map-range_with_len}
use Rattle.model.specs.Mdp.{Mdp}
use Rattle.text.proofs.Asking.{checked}
use Rattle.rules.specs.declared.fault.PartFault.{PartFault}
use Rattle.rules.specs.declared.fault.PartFault.TheVariants.{Units}
use Rattle.rounds.specs.declared.fault.RoundsFault.{RoundsFault}
use Rattle.rounds.specs.Refusals.{rounds_fault}
use Rattle.rounds.specs.Runs.{RoundsRun, listed}
use Rattle.rounds_text.specs.declared.fault.RequestFault.TheVariants.{Part, Rounds}
use Rattle.rounds_text.specs.Numberings.{Numbering, values_made}
use Rattle.rounds_text.specs.Refusals.{numbers_fault}
use Rattle.rounds_text.specs.Requests.{lists_text, rounds_text}

module _ {V : Type 0} (v : Numbering V) (m : Mdp) (numbers : List ℕ) where
  -- rounds begin from these lists: the values that the numbers stand for, and a 0 for each state
  pub record Begun (first second : List V) : Type 0 where
    pub lawful : list_all v.lawful numbers ≡ true
    pub values : first ≡ map v.value numbers
    pub zeros : second ≡ listed m.states (λ s. v.value 0)

  -- lists that are made of the numbers and of the states are such
  pub begun : (r : Result (Vec V Global) PartFault) (w : Vec V Global) (first second zeros : List V) (n : ℕ) → r ≡ Ok w → result_map_both vec_items (λ e. e) r ≡ values_made v numbers → first ≡ vec_items w
      → second ≡ zeros → zeros ≡ listed n (λ s. v.value 0) → n ≡ m.states → Begun first second
  begun r w first second zeros n is e lent other fresh count =
      let passed = checked (list_all v.lawful numbers) (vec_items w) (map v.value numbers) (result_map_both vec_items (λ e. e) r) Units e (ap (result_map_both vec_items (λ e. e)) is) in
      record { lawful = passed.0; values = lent ∙ passed.1; zeros = other ∙ fresh ∙ ap (λ k. listed k (λ s. v.value 0)) count }

  module _ (k : ℕ) {first second : List V} (b : Begun first second) where
    -- the questions on the numbers are those on the lists
    pub asked_same : (o : Option RoundsFault) → rounds_fault m.states (length first) (length second) k ≡ o → numbers_fault v m.states k numbers ≡ option_map Rounds o
    asked_same o asked =
        let long : length first ≡ length numbers = ap length b.values ∙ length-map numbers v.value in
        let room : length second ≡ m.states = ap length b.zeros ∙ length-map-range_with_len (λ s. v.value 0) 0 m.states in
        ap (λ p. cond p (option_map Rounds (rounds_fault m.states (length numbers) m.states k)) (Some (Part Units))) b.lawful
        ∙ ap (option_map Rounds) (ap₂ (λ x y. rounds_fault m.states x y k) (sym long) (sym room) ∙ asked)

    -- the lists that rounds leave have the text that is defined
    pub did_text : (preferred : V → V → Bool) (mix : ℕ → List (ℕ × V) → V) (first' second' : List V) → RoundsRun preferred mix m k first second first' second'
        → lists_text (map v.number first') (map v.number second') ≡ rounds_text v preferred mix m k numbers
    did_text preferred mix first' second' did =
        let here = did.first (v.value 0) in
        let there = did.second (v.value 0) in
        let from = b.values in
        let zeros = b.zeros in
        cc
