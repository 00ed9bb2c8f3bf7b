-- What the loader knows goes on from line to line.
use Rattle.std.proofs.Common.{◌≡◌, ℕ, ◌+◌, true, false, cond, eqb, ltb, List, [], ◌∷◌, ◌++◌, length, drop, Some, None, vec_items, Option, sym, refl, ap, ◌∙◌, ap₂, arith, length-append, append-nil, add-zero, Bool}
use Rattle.std.proofs.lemmas.List.{drop_all, drop-append-le}
use Rattle.std.proofs.lemmas.Bool.{both_ways}
use Rattle.std.proofs.lemmas.Option.{none-some}
use Rattle.model.specs.declared.branch.Branch.{Branch}
use Rattle.model.specs.declared.labels.Labels.{Labels}
use Rattle.model.specs.Mdp.{total}
use Rattle.text.specs.declared.word.Word.{Word}
use Rattle.text.specs.declared.word.Word.TheVariants as word
use Rattle.text.specs.Cuts.{Line}
use Rattle.text.specs.Words.{listed, one_of, followers}
use Rattle.text.specs.Questions.{word, number, last_word, header, states_given, denominator_given, above_last, count, word_fits, states_there}
use Rattle.text_laws.proofs.SoundRest.{count_more, row_sum_more}
use Rattle.flat.specs.declared.loader.Loader.{Loader}
use Rattle.flat.specs.declared.loader.Record.{Record}
use Rattle.flat.specs.declared.loader.Record.TheVariants as record_of
use Rattle.flat.specs.declared.flat.Flat.{Flat}
use Rattle.flat.specs.Drafts.{Added}
use Rattle.flat.specs.Flats.{row_start}
use Rattle.flat.specs.Readings.{row_of, goes_above, Follows, Says, word_of_record, header_after, Recorded, Put, all_there}
use Rattle.flat.proofs.Rows.{total-push, row_start-push, goes_above-push}

-- a line that says something has its word
pub says_word : (line : Line) (said : Record) → Says line said → word line ≡ Some (word_of_record said)
says_word line (record_of.Header header) s = s.0
says_word line (record_of.State labels) s = s.0
says_word line record_of.Choice s = s
says_word line (record_of.Branch branch) s = s.0
says_word line record_of.End s = s

-- whether a target is above the last goes on
above_more : (v : Word) (line : Line) (before : List Line) (t : ℕ) → word line ≡ Some v → above_last (line ∷ before) t ≡ cond (listed v (word.Branch ∷ [])) (ltb (number 1 line) t) true
above_more v line before t e = ap (λ o. cond (one_of (word.Branch ∷ []) o) (ltb (number 1 line) t) true) e

-- a line that is no header comes after a line, and so does not change which is the first
header_more : (v : Word) (line : Line) (before : List Line) → word line ≡ Some v → listed v (word.Mdp ∷ []) ≡ false → word_fits before line ≡ true → header (line ∷ before) ≡ header before
header_more v line [] e no_Header fits = absurd (both_ways (listed v (word.Mdp ∷ [])) no_Header (sym (ap (one_of (word.Mdp ∷ [])) e) ∙ fits))
header_more v line (l ∷ before) e no_Header fits = refl

-- a header comes first
none_before : (v : Option Word) → listed word.Mdp (followers v) ≡ true → v ≡ None
none_before None h = refl
none_before (Some word.Mdp) h = cc
none_before (Some word.State) h = cc
none_before (Some word.Choice) h = cc
none_before (Some word.Branch) h = cc
none_before (Some word.End) h = cc

-- a branch comes in a row that is open
row_before : (v : Option Word) → listed word.Branch (followers v) ≡ true → one_of (word.Choice ∷ word.Branch ∷ []) v ≡ true
row_before None h = cc
row_before (Some word.Mdp) h = cc
row_before (Some word.State) h = cc
row_before (Some word.Choice) h = refl
row_before (Some word.Branch) h = refl
row_before (Some word.End) h = cc

-- the lengths of arrays with elements put at their ends
longer : {ls : List Labels} {ss os : List ℕ} {bs : List Branch} {f g : Flat} → Added ls ss os bs f g → (length (vec_items g.labels) ≡ length (vec_items f.labels) + length ls) × (length (vec_items g.offsets) ≡ length (vec_items f.offsets) + length os) × (length (vec_items g.branches) ≡ length (vec_items f.branches) + length bs)
longer put = (ap length put.labels ∙ length-append _ _, ap length put.offsets ∙ length-append _ _, ap length put.branches ∙ length-append _ _)

-- the arrays grow by one element where the line has its word
grown : (said : Record) (f g : Flat) → Recorded said f g → (length (vec_items g.labels) ≡ length (vec_items f.labels) + cond (listed (word_of_record said) (word.State ∷ [])) 1 0) × (length (vec_items g.offsets) ≡ length (vec_items f.offsets) + cond (listed (word_of_record said) (word.Choice ∷ [])) 1 0) × (length (vec_items g.branches) ≡ length (vec_items f.branches) + cond (listed (word_of_record said) (word.Branch ∷ [])) 1 0)
grown (record_of.Header new) f g put = longer put
grown (record_of.State labels) f g put = longer put
grown record_of.Choice f g put = longer put
grown (record_of.Branch branch) f g put = longer put
grown record_of.End f g put = longer put

-- the count of a word goes on so, too
counted_more : (w : Word) (line : Line) (before : List Line) (said : Record) (m n : ℕ) → Says line said → m ≡ n + cond (listed (word_of_record said) (w ∷ [])) 1 0 → n ≡ count w before → m ≡ count w (line ∷ before)
counted_more w line before said m n s more is =
    more ∙ one (listed (word_of_record said) (w ∷ [])) ∙ ap (λ k. cond (listed (word_of_record said) (w ∷ [])) (k + 1) k) is ∙ sym (count_more w (word_of_record said) line before (says_word line said s))
  where
    one : (b : Bool) → n + cond b 1 0 ≡ cond b (n + 1) n
    one true = refl
    one false = add-zero n

-- the open row, where it is known whether one is open
pub row_where : (r : Loader) (v : Option Word) (answer : Bool) → r.last ≡ v → one_of (word.Choice ∷ word.Branch ∷ []) v ≡ answer → row_of r ≡ cond answer (drop (row_start (vec_items r.flat.now.offsets)) (vec_items r.flat.now.branches)) []
row_where r v answer last h =
    ap (λ b. cond b (drop (row_start (vec_items r.flat.now.offsets)) (vec_items r.flat.now.branches)) []) (ap (one_of (word.Choice ∷ word.Branch ∷ [])) last ∙ h)

-- the row of a choice that is opened is empty
opened : (r q : Loader) → Put record_of.Choice r q → row_of q ≡ []
opened r q put =
    let bs = vec_items r.flat.now.branches in
    row_where q _ true put.last refl
    ∙ ap₂ drop (ap row_start put.arrays.offsets ∙ row_start-push (vec_items r.flat.now.offsets) (length bs)) (put.arrays.branches ∙ append-nil bs)
    ∙ drop_all (length bs) bs (omega arith)

-- a branch is put at the end of the open row
pushed : (branch : Branch) (r q : Loader) → Put (record_of.Branch branch) r q → one_of (word.Choice ∷ word.Branch ∷ []) r.last ≡ true → row_of q ≡ row_of r ++ (branch ∷ [])
pushed branch r q put in_row =
    row_where q _ true put.last refl
    ∙ ap₂ drop (ap row_start (put.arrays.offsets ∙ append-nil (vec_items r.flat.now.offsets))) put.arrays.branches
    ∙ drop-append-le _ _ (branch ∷ []) r.row_within
    ∙ ap (λ row. row ++ (branch ∷ [])) (sym (row_where r _ true refl in_row))

-- an empty row has no weights and no last target
no_row : (q : Loader) → row_of q ≡ [] → (total (row_of q) ≡ 0) × ((t : ℕ) → goes_above (row_of q) t ≡ true)
no_row q e = (ap total e, λ t. ap (λ row. goes_above row t) e)

-- a line that may stand after these lines, says this, and is put into the arrays
module _ (line : Line) (before : List Line) (r q : Loader) (k : Follows r before) (fits : word_fits before line ≡ true) where
  -- its word is among those that may follow the last
  follows_last : (v : Word) → word line ≡ Some v → listed v (followers r.last) ≡ true
  follows_last v e = ap (λ o. listed v (followers o)) k.last ∙ sym (ap (one_of (followers (last_word before))) e) ∙ fits

  -- how the open row goes on
  rows : (said : Record) → Says line said → Put said r q → (total (row_of q) ≡ cond (listed (word_of_record said) (word.Branch ∷ [])) (number 2 line + total (row_of r)) 0) × ((t : ℕ) → goes_above (row_of q) t ≡ cond (listed (word_of_record said) (word.Branch ∷ [])) (ltb (number 1 line) t) true)
  rows (record_of.Header new) s put = no_row q (row_where q _ false put.last refl)
  rows (record_of.State labels) s put = no_row q (row_where q _ false put.last refl)
  rows record_of.Choice s put = no_row q (opened r q put)
  rows (record_of.Branch branch) s put =
      let more = pushed branch r q put (row_before r.last (follows_last word.Branch s.0)) in
      (ap total more ∙ total-push (row_of r) branch ∙ ap (λ n. n + total (row_of r)) s.2, λ t. ap (λ row. goes_above row t) more ∙ goes_above-push (row_of r) branch t ∙ ap (λ n. ltb n t) s.1)
  rows record_of.End s put = no_row q (row_where q _ false put.last refl)

  -- a line that is no header leaves what the header gives
  header_kept : (said : Record) → Says line said → listed (word_of_record said) (word.Mdp ∷ []) ≡ false → (r.header.states ≡ states_given (line ∷ before)) × (r.header.denominator ≡ denominator_given (line ∷ before))
  header_kept said s h =
      let same = sym (header_more (word_of_record said) line before (says_word line said s) h fits) in
      (k.states ∙ ap (number 1) same, k.denominator ∙ ap (number 2) same)

  -- what the header gives goes on
  headers : (said : Record) → Says line said → ((header_after r.header said).states ≡ states_given (line ∷ before)) × ((header_after r.header said).denominator ≡ denominator_given (line ∷ before))
  headers (record_of.Header new) s =
      let start : header (line ∷ before) ≡ line = ap (λ b. header (line ∷ b)) (k.begun (none_before r.last (follows_last word.Mdp s.0))) in
      (s.1 ∙ ap (number 1) (sym start), s.2 ∙ ap (number 2) (sym start))
  headers (record_of.State labels) s = header_kept (record_of.State labels) s refl
  headers record_of.Choice s = header_kept record_of.Choice s refl
  headers (record_of.Branch branch) s = header_kept (record_of.Branch branch) s refl
  headers record_of.End s = header_kept record_of.End s refl

  -- what the loader knows of the lines before, it then knows with the line
  pub follows_more : (said : Record) → Says line said → Put said r q → Follows q (line ∷ before)
  follows_more said s put =
      let v = word_of_record said in
      let e = says_word line said s in
      let arrays = grown said r.flat.now q.flat.now put.arrays in
      let row = rows said s put in
      let given = headers said s in
      record {
        last = put.last ∙ sym e;
        begun = λ z. absurd (none-some v (sym z ∙ put.last));
        states = ap (λ h. h.states) put.header ∙ given.0;
        denominator = ap (λ h. h.denominator) put.header ∙ given.1;
        row = row.0 ∙ ap (λ n. cond (listed v (word.Branch ∷ [])) (number 2 line + n) 0) k.row ∙ sym (row_sum_more v line before e);
        target = λ t. row.1 t ∙ sym (above_more v line before t e);
        state_count = counted_more word.State line before said _ _ s arrays.0 k.state_count;
        choice_count = counted_more word.Choice line before said _ _ s arrays.1 k.choice_count;
        branch_count = counted_more word.Branch line before said _ _ s arrays.2 k.branch_count;
      }

-- whether all states are there is asked at the end alone, of what is known
pub there : (line : Line) (before : List Line) (r : Loader) (said : Record) → Follows r before → Says line said → states_there before line ≡ all_there r said
there line before r said k s = ap (λ o. cond (one_of (word.End ∷ []) o) (eqb (count word.State before) (states_given before)) true) (says_word line said s) ∙ by_kind said
  where
    by_kind : (said : Record) → cond (listed (word_of_record said) (word.End ∷ [])) (eqb (count word.State before) (states_given before)) true ≡ all_there r said
    by_kind (record_of.Header header) = refl
    by_kind (record_of.State labels) = refl
    by_kind record_of.Choice = refl
    by_kind (record_of.Branch branch) = refl
    by_kind record_of.End = sym (ap₂ eqb k.state_count k.states)
