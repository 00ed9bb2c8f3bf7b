-- The lines of a text are read one after the other.
use Rattle.std.proofs.Common.{◌≡◌, ℕ, ◌+◌, ◌-◌, ◌<◌, ◌≤◌, Bool, true, false, cond, eqb, List, [], ◌∷◌, ◌++◌, map, length, get_or, drop, Some, None, vec_items, Option, sym, refl, ap, ◌∙◌, subst, ap₂, Bor, arith}
use Rattle.std.proofs.lemmas.List.{map-append, at_drop_more, drop_all, get_or-map, length-map}
use Rattle.std.proofs.lemmas.Iterator.{YieldsList}
use Rattle.std.proofs.lemmas.Bool.{le-leb, eq-eqb}
use Rattle.std.proofs.lemmas.Option.{none-some}
use Rattle.std.specs.Iterator.{Yields}
use Rattle.std.specs.List.{slice_split, onto_first, enumerate_from}
use Rattle.model.specs.Mdp.{total}
use Rattle.text.specs.declared.word.Word.TheVariants as word
use Rattle.text.specs.declared.fault.FileFault.{FileFault}
use Rattle.text.specs.declared.fault.FileFault.TheVariants.{Long, Unended, NoEnd}
use Rattle.text.specs.Cuts.{Line, cut, fields, each_fields, lines}
use Rattle.text.specs.Contents.{Content}
use Rattle.text.specs.Texts.{Describes, content_lines}
use Rattle.text.specs.Words.{one_of}
use Rattle.text.specs.Questions.{number, header, last_word, word_fits}
use Rattle.text.specs.Refusals.{ask, or_next, numbered, line_fault, line_refusal, lines_refusal, refusal}
use Rattle.text.proofs.Parts.{next_part, no_part}
use Rattle.text_laws.proofs.Nest.{first_line, content_of}
use Rattle.text_laws.proofs.Sound.{sound, describes}
use Rattle.text_laws.proofs.Complete.{accepted}
use Rattle.text_laws.proofs.SoundAsks.{or_next_none, ask_next_none, numbered_none}
use Rattle.flat.specs.declared.flat.Flat.{Flat}
use Rattle.flat.specs.declared.loader.Loader.{Loader}
use Rattle.flat.specs.Drafts.{Added, Closed}
use Rattle.flat.specs.Flats.{letters, content, LaidOut}
use Rattle.flat.specs.Reads.{Holds}
use Rattle.flat.specs.Readings.{goes_above, Begun, Follows, Stepped}
use Rattle.flat.proofs.Told.{told_labels, told_starts, told_offsets, told_branches, same_arrays, arrays, told, completed}
use Rattle.flat.proofs.Following.{row_where, follows_more}
use Rattle.flat.proofs.Growing.{tells_on}
use Rattle.flat.proofs.ToldFlat.{loaded}

-- a text that is short and ended is refused with the fault of its lines
pub refusal_lines : (text : List ℕ) → length text ≤ 65536 → get_or text (length text - 1) 0 ≡ 10 → refusal text ≡ lines_refusal [] 1 (lines text)
refusal_lines text short ended =
    ap (λ b. or_next (ask b Long) (or_next (ask (eqb (get_or text (length text - 1) 0) 10) Unended) (or_next (lines_refusal [] 1 (lines text)) None))) (le-leb _ _ short)
    ∙ ap (λ b. or_next (ask b Unended) (or_next (lines_refusal [] 1 (lines text)) None)) (eq-eqb _ 10 ended)
    ∙ last (lines_refusal [] 1 (lines text))
  where
    last : (f : Option FileFault) → or_next f None ≡ f
    last None = refl
    last (Some f) = refl

-- a text that is refused describes nothing
pub refused_none : (text : List ℕ) (fault : FileFault) → refusal text ≡ Some fault → (c : Content) → Describes text c → ⊥
refused_none text fault e c d = none-some fault (sym (accepted text c d) ∙ e)

-- the pieces of a text that an LF ends are the parts of what stands before that LF
cut_parts : (body : List ℕ) → cut 10 [] (body ++ (10 ∷ [])) ≡ slice_split (λ b. eqb b 10) body
cut_parts [] = refl
cut_parts (x ∷ xs) = ap (λ ps. cond (eqb x 10) ([] ∷ ps) (onto_first x ps)) (cut_parts xs)

-- the lines of pieces
each_fields-map : (ps : List (List ℕ)) → each_fields ps ≡ map fields ps
each_fields-map [] = refl
each_fields-map (p ∷ ps) = ap (λ ls. fields p ∷ ls) (each_fields-map ps)

-- the lines of a text that an LF ends
pub lines_parts : (body : List ℕ) → lines (body ++ (10 ∷ [])) ≡ map fields (slice_split (λ b. eqb b 10) body)
lines_parts body = ap each_fields (cut_parts body) ∙ each_fields-map (slice_split (λ b. eqb b 10) body)

-- after n lines of all, this is the next, counted from 0
pub record Next (all : List Line) (n i : ℕ) (line : Line) : Type 0 where
  pub number : i ≡ n
  pub within : n < length all
  pub here : line ≡ get_or all n line

-- a loop over the parts of what stands before the last LF, counted from 0, which has had the parts xs
module _ {S : Type 0} {steps : S → Option (ℕ × Bor (List ℕ)) → S → Type 0} {s : S} (body : List ℕ) (each : YieldsList steps (λ p. (p.0, p.1.now)) s (enumerate_from 0 (slice_split (λ b. eqb b 10) body))) (xs : List (ℕ × Bor (List ℕ))) (t : S) (had : Yields steps s xs t) (u : S) (got : Option (ℕ × Bor (List ℕ))) (step : steps t got u) where
  -- the part that it gets is the next line
  pub next_line : (i : ℕ) (part : Bor (List ℕ)) → got ≡ Some (i, part) → Next (lines (body ++ (10 ∷ []))) (length xs) i (fields part.now)
  next_line i part e =
      let parts = slice_split (λ b. eqb b 10) body in
      let next = next_part parts each xs t had u got step i part e in
      record {
        number = next.0;
        within = rw (lines_parts body, length-map parts fields) next.1;
        here = ap fields next.2 ∙ sym (get_or-map fields parts (length xs) part.now (fields part.now) next.1) ∙ ap (λ ls. get_or ls (length xs) (fields part.now)) (sym (lines_parts body));
      }

  -- where it gets none, it has had all lines
  pub no_line : got ≡ None → length xs ≡ length (lines (body ++ (10 ∷ [])))
  no_line e =
      let parts = slice_split (λ b. eqb b 10) body in
      no_part parts each xs t had u got step e ∙ sym (length-map parts fields) ∙ ap length (sym (lines_parts body))

-- the header, if it is read, and else the first line that is left
abbrev first_of : List Line → List Line → Line
first_of [] ls = first_line ls
first_of (l ∷ before) ls = header (l ∷ before)

-- the header stays the same as lines are read
first_on : (before : List Line) (line : Line) (ls : List Line) → first_of (line ∷ before) ls ≡ first_of before (line ∷ ls)
first_on [] line ls = refl
first_on (l ∷ before) line ls = refl

-- n of all the lines are read
pub record ReadTo (all : List Line) (n : ℕ) (r : Loader) : Type 0 where
  pub before : List Line
  pub follows : Follows r before
  pub left : lines_refusal before (n + 1) (drop n all) ≡ lines_refusal [] 1 all
  pub first : first_of before (drop n all) ≡ first_line all
  pub tells : completed r.flat.now (drop n all) ≡ told all

-- before the first line
pub read_none : (all : List Line) (r : Loader) → Begun r → ReadTo all 0 r
read_none all r b =
    let e = b.arrays in
    let os = ap length e.offsets in
    let bs = ap length e.branches in
    let row = row_where r None false b.last refl in
    record {
      before = [];
      follows = record { last = b.last; begun = λ _. refl; states = b.states; denominator = b.denominator; row = ap total row; target = λ t. ap (λ x. goes_above x t) row; state_count = ap length e.labels; choice_count = os; branch_count = bs };
      left = refl;
      first = refl;
      tells = same_arrays (ap (λ xs. letters xs ++ told_labels all) e.labels) (ap₂ (λ xs ys. xs ++ told_starts (length ys) all) e.starts e.offsets) (ap₂ (λ xs ys. xs ++ told_offsets (length ys) all) e.offsets e.branches) (ap (λ xs. xs ++ told_branches all) e.branches);
    }

-- the word of a line that is not refused may stand there
word_passed : (before : List Line) (n : ℕ) (line : Line) → line_refusal before n line ≡ None → word_fits before line ≡ true
word_passed before n line e = (ask_next_none (word_fits before line) _ _ (numbered_none n (line_fault before line) (or_next_none (numbered n (line_fault before line)) _ e).0)).0

-- where n lines are read, and this is the next
module _ (all : List Line) (n i : ℕ) (r : Loader) (k : ReadTo all n r) (line : Line) (next : Next all n i line) where
  -- it is the first of those left
  here_cut : drop n all ≡ line ∷ drop (n + 1) all
  here_cut = at_drop_more (λ ls. ls) all n line next.within ∙ ap (λ x. x ∷ drop (n + 1) all) (sym next.here)

  -- what refuses the lines left is what refuses the line, or else the lines after it
  refusal_here : lines_refusal [] 1 all ≡ or_next (line_refusal k.before (i + 1) line) (lines_refusal (line ∷ k.before) (n + 1 + 1) (drop (n + 1) all))
  refusal_here =
      sym k.left ∙ ap (lines_refusal k.before (n + 1)) here_cut
      ∙ ap (λ j. or_next (line_refusal k.before (j + 1) line) (lines_refusal (line ∷ k.before) (n + 1 + 1) (drop (n + 1) all))) (sym next.number)

  -- a refused line refuses the text
  pub read_fault : (fault : FileFault) → line_refusal k.before (i + 1) line ≡ Some fault → lines_refusal [] 1 all ≡ Some fault
  read_fault fault e = refusal_here ∙ ap (λ o. or_next o (lines_refusal (line ∷ k.before) (n + 1 + 1) (drop (n + 1) all))) e

  -- a line that is not refused is read
  pub read_more : (q : Loader) → (line_refusal k.before (i + 1) line ≡ None) × Stepped line r q → ReadTo all (n + 1) q
  read_more q (e, s) =
      let ls = drop (n + 1) all in
      let f = r.flat.now in
      record {
        before = line ∷ k.before;
        follows = follows_more line k.before r q k.follows (word_passed k.before (i + 1) line e) s.said s.says s.put;
        left = sym (ap (λ o. or_next o (lines_refusal (line ∷ k.before) (n + 1 + 1) ls)) e) ∙ sym refusal_here;
        first = first_on k.before line ls ∙ ap (first_of k.before) (sym here_cut) ∙ k.first;
        tells = tells_on line ls f q.flat.now s.said s.says s.put.arrays ∙ ap (completed f) (sym here_cut) ∙ k.tells;
      }

-- arrays that end with the numbers of choices and of branches are what those before become with no lines left
closed_arrays : (f g : Flat) → Added [] (length (vec_items f.offsets) ∷ []) (length (vec_items f.branches) ∷ []) [] f g → arrays g ≡ completed f []
closed_arrays f g put = same_arrays (ap letters put.labels ∙ map-append (λ l. l.letters) (vec_items f.labels) []) put.starts put.offsets put.branches

-- where all lines of a text are read
module _ (text : List ℕ) (n : ℕ) (r : Loader) (k : ReadTo (lines text) n r) (all : n ≡ length (lines text)) where
  -- no line is left
  none_left : drop n (lines text) ≡ []
  none_left = drop_all n (lines text) (omega (arith, all))

  -- whether the last line is an end
  pub read_end : (answer : Bool) → one_of (word.End ∷ []) r.last ≡ answer → lines_refusal [] 1 (lines text) ≡ ask answer NoEnd
  read_end answer e =
      sym k.left ∙ ap (lines_refusal k.before (n + 1)) none_left
      ∙ ap (λ o. ask (one_of (word.End ∷ []) o) NoEnd) (sym k.follows.last) ∙ ap (λ b. ask b NoEnd) e

  -- the header is the first line
  header_read : one_of (word.End ∷ []) r.last ≡ true → header k.before ≡ first_line (lines text)
  header_read e = read k.before (ap (one_of (word.End ∷ [])) (sym k.follows.last) ∙ e) ∙ ap (first_of k.before) (sym none_left) ∙ k.first
    where
      read : (before : List Line) → one_of (word.End ∷ []) (last_word before) ≡ true → header before ≡ first_of before []
      read [] h = refl
      read (l ∷ before) h = refl

  -- the arrays, closed, hold the content that the text describes
  pub read_all : length text ≤ 65536 → get_or text (length text - 1) 0 ≡ 10 → one_of (word.End ∷ []) r.last ≡ true → (g : Flat) → Closed r.header.denominator r.flat.now g → Holds text g
  read_all short ended e g closed =
      let ls = lines text in
      let f = r.flat.now in
      let passed : lines_refusal [] 1 ls ≡ None = read_end true e in
      let d = describes text (refusal_lines text short ended ∙ passed) in
      let c = content_of ls in
      let same : ls ≡ content_lines c = (sound ls passed).0 in
      let whole : arrays g ≡ told (content_lines c) = closed_arrays f g closed.ended ∙ ap (completed f) (sym none_left) ∙ k.tells ∙ ap told same in
      let filled = loaded c d.within g whole in
      let units : g.denominator ≡ c.denominator = closed.denominator ∙ k.follows.denominator ∙ ap (number 2) (header_read e) in
      let held : c ≡ content g = ap₂ (λ u ss. record { denominator = u; states = ss }) (sym units) (sym filled.states) in
      record { describes = subst (Describes text) held d; laid_out = subst (λ ss. LaidOut ss g) (sym filled.states) filled.laid_out; long = filled.long; rising = filled.rising; spanned = filled.spanned }
