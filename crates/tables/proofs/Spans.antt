-- What flat arrays hold at a place.
use Rattle.std.proofs.Common.{◌≡◌, ℕ, ◌+◌, ◌-◌, ◌<◌, ◌≤◌, List, [], Some, None, Option, Bor, length, get_or, vec_items, sym, refl, ap, ◌∙◌, ⊎_elim, arith}
use Rattle.std.specs.Option.{unwrap_or, option_copied, UnwrapsOrElse}
use Rattle.std.specs.Slice.{IsItemAt}
use Rattle.std.proofs.lemmas.Bool.{cases_lt}
use Rattle.std.proofs.lemmas.List.FromFn.{length-map-range_with_len, get_or-map-range_with_len}
use Rattle.std.proofs.lemmas.List.{length-map, get_or-map, get_or_past, get_or_read}
use Rattle.model.specs.declared.labels.Labels.{Labels}
use Rattle.model.specs.Mdp.{Row, no_labels, row}
use Rattle.text.specs.Contents.{State, no_state, model_of}
use Rattle.flat.specs.declared.flat.Flat.{Flat}
use Rattle.tables.specs.declared.tables.Tables.{Tables}
use Rattle.tables.specs.Spans.{Stands}
use Rattle.flat.specs.Flats.{piece, letters, flat_state, content}

-- what is unwrapped, or else has no letter, is unwrapped with a set that has none in the other's place
unwrapped : (copied : Option Labels) (set : Labels) → UnwrapsOrElse copied (λ l. l.letters ≡ no_labels) set → (none : Labels) × (none.letters ≡ no_labels) × (set ≡ unwrap_or copied none)
unwrapped None set u = (set, u, refl)
unwrapped (Some x) set u = (record { letters = no_labels; sixteen = refl }, refl, u)

module _ (f : Flat) where
  -- the row of choice number k, counted over all states
  abbrev pub row_at : ℕ → Row
  row_at k = piece (vec_items f.offsets) (vec_items f.branches) k

  -- state s
  abbrev state_at : ℕ → State
  state_at s = flat_state (letters (vec_items f.labels)) (vec_items f.starts) (vec_items f.offsets) (vec_items f.branches) s

  -- how many choices state s has
  abbrev count_at : ℕ → ℕ
  count_at s = get_or (vec_items f.starts) (s + 1) 0 - get_or (vec_items f.starts) s 0

  -- there are as many states as sets of labels
  pub states_count : length (content f).states ≡ length (vec_items f.labels)
  states_count = length-map-range_with_len state_at 0 (length (letters (vec_items f.labels))) ∙ length-map (vec_items f.labels) (λ l. l.letters)

  -- a state that exists
  state_here : (s : ℕ) → s < length (vec_items f.labels) → get_or (content f).states s no_state ≡ state_at s
  state_here s h = let e = length-map (vec_items f.labels) (λ l. l.letters) in get_or-map-range_with_len state_at 0 (length (letters (vec_items f.labels))) s s no_state (omega arith) (omega arith)

  -- a state that does not
  pub state_past : (s : ℕ) → length (vec_items f.labels) ≤ s → get_or (content f).states s no_state ≡ no_state
  state_past s h = let e = states_count in get_or_past (content f).states s no_state (omega arith)

  -- the labels of a state are the set at its place; past the end, none
  labels_at : (s : ℕ) (none : Labels) → none.letters ≡ no_labels → (get_or (vec_items f.labels) s none).letters ≡ (model_of (content f)).labels s
  labels_at s none e =
      ⊎_elim
      (λ (h : s < length (vec_items f.labels)). sym (get_or-map (λ x. x.letters) (vec_items f.labels) s none no_labels h) ∙ sym (ap (λ x. x.labels) (state_here s h)))
      (λ (h : length (vec_items f.labels) ≤ s). ap (λ x. x.letters) (get_or_past (vec_items f.labels) s none h) ∙ e ∙ sym (ap (λ x. x.labels) (state_past s h)))
      (cases_lt s (length (vec_items f.labels)))

  -- the set that is got there, or else one with no letter, has the labels of the state
  pub labels_got : (s : ℕ) (got : Option (Bor Labels)) (copied : Option Labels) (set : Labels) {sets : List Labels} → UnwrapsOrElse copied (λ l. l.letters ≡ no_labels) set → copied ≡ option_copied got → IsItemAt sets s got → sets ≡ vec_items f.labels → set.letters ≡ (model_of (content f)).labels s
  labels_got s got copied set {sets} u a g same =
      let d = unwrapped copied set u in
      let found = d.2 ∙ ap (λ r. unwrap_or r d.0) a ∙ g.4 (omega arith) d.0 ∙ ap (λ ls. get_or ls s d.0) same in
      ap (λ l. l.letters) found ∙ labels_at s d.0 d.1

  -- a state has as many choices as its part of `starts` says
  pub choices_here : (s : ℕ) → s < length (vec_items f.labels) → length ((model_of (content f)).choices s) ≡ count_at s
  choices_here s h = ap (λ x. length x.choices) (state_here s h) ∙ length-map-range_with_len row_at (get_or (vec_items f.starts) s 0) (count_at s)

  -- the row of a choice that exists stands where `offsets` says
  pub row_here : (s c : ℕ) → s < length (vec_items f.labels) → c < count_at s → row (model_of (content f)) s c ≡ row_at (get_or (vec_items f.starts) s 0 + c)
  row_here s c h k = ap (λ x. get_or x.choices c []) (state_here s h) ∙ get_or-map-range_with_len row_at (get_or (vec_items f.starts) s 0) (count_at s) c (get_or (vec_items f.starts) s 0 + c) [] k refl

  -- a choice that is among the choices of its state is there
  choice_here : (s c : ℕ) → c < length ((model_of (content f)).choices s) → (s < length (vec_items f.labels)) × (c < count_at s)
  choice_here s c h =
      ⊎_elim
      (λ (k : s < length (vec_items f.labels)). (k, omega (arith, choices_here s k)))
      (λ (k : length (vec_items f.labels) ≤ s). absurd (omega (arith, ap (λ x. length x.choices) (state_past s k))))
      (cases_lt s (length (vec_items f.labels)))

module _ (t : Tables) (s c : ℕ) (h : c < length ((model_of (content t.kept)).choices s)) where
  -- the state of a choice begins somewhere
  pub begins : s < length (vec_items t.kept.starts)
  begins = omega (arith, t.long, (choice_here t.kept s c h).0)

  -- a row of the tables stands where their numbers say
  pub stands : (first : ℕ) → first ≡ get_or (vec_items t.kept.starts) s first → Stands t.kept (row (model_of (content t.kept)) s c) (first + c)
  stands first e =
      let here = choice_here t.kept s c h in
      let begin = get_or_read (vec_items t.kept.starts) s first begins e 0 in
      let room = t.rising s here.0 in
      let inside : first + c + 1 < length (vec_items t.kept.offsets) = omega (arith, begin, room.0, room.1, here.1) in
      let place = t.spanned (first + c) inside in
      record { choice = inside; order = place.0; within = place.1; is = row_here t.kept s c here.0 here.1 ∙ ap (λ k. row_at t.kept (k + c)) (sym begin) }
