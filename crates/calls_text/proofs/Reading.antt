-- The lines of a text of calls are read one after the other.
use Rattle.std.proofs.Common.{◌≡◌, ℕ, ◌+◌, ◌<◌, false, not, ◌||◌, eqb, List, [], ◌∷◌, ◌++◌, map, length, get_or, drop, Some, None, Ok, Err, Option, Result, sym, refl, ap, ap₂, ◌∙◌, append_assoc, append-nil, Bor, arith}
use Rattle.std.specs.Result.{result_map_both}
use Rattle.std.specs.Iterator.{Yields}
use Rattle.std.specs.List.{list_any, flat_map, slice_split, enumerate_from}
use Rattle.std.proofs.lemmas.Iterator.{YieldsList}
use Rattle.std.proofs.lemmas.List.{at_drop_more, drop_all, length-map}
use Rattle.std.proofs.lemmas.List.Folds.{list_any-append}
use Rattle.std.proofs.lemmas.Grind.{flat_map-append}
use Rattle.std.proofs.lemmas.Bool.Decides.{nat_tests}
use Rattle.text.proofs.Cutting.{split_pieces}
use Rattle.text.proofs.Parts.{next_part, no_part}
use Rattle.calls_text.specs.declared.mistake.Wrong.{Wrong}
use Rattle.calls_text.specs.declared.mistake.Mistake.{Mistake}
use Rattle.calls_text.specs.declared.script.Script.{Script}
use Rattle.calls_text.specs.Words.{text_lines}
use Rattle.calls_text.specs.Requests.{Asked, given, start, advance, ends, verdict, judge, hold, play}
use Rattle.calls_text.specs.VerdictEnds.{ReplaysReadOff}
use Rattle.calls_text.proofs.VerdictEnds.{verdicts_read_off}
use Rattle.calls_text.specs.Texts.{is_call, line_asks, and_then, lines_ask, held_state, played_calls, contents_asked, contents, text_read}
use Rattle.calls_text.specs.Readings.{begun, Adds}

-- what was asked for before stands before
abbrev pub joined : List Asked → Result (List Asked) Mistake → Result (List Asked) Mistake
joined had r = result_map_both (λ more. had ++ more) (λ m. m) r

-- k lines of all are read into the script
pub record ReadTo (n : ℕ) (all : List (List ℕ)) (k : ℕ) (s : Script) : Type 0 where
  pub had : List Asked
  pub told : contents s ≡ contents_asked had
  pub left : joined had (lines_ask n (list_any is_call had) (k + 1) (drop k all)) ≡ lines_ask n false 1 all

-- calls have begun where a call was asked for
begun_asked : (had : List Asked) → not (eqb (length (flat_map played_calls had)) 0) ≡ list_any is_call had
begun_asked [] = refl
begun_asked (hold s ∷ had) = begun_asked had
begun_asked (play (start left right aim) ∷ had) = grind (arith, nat_tests)
begun_asked (play (advance k) ∷ had) = grind (arith, nat_tests)
begun_asked (play (ends s) ∷ had) = grind (arith, nat_tests)
begun_asked (play (verdict s c b) ∷ had) = grind (arith, nat_tests)
begun_asked (play (judge text buffers) ∷ had) = grind (arith, nat_tests)

-- so in a script that has what was asked for
begun_told : (s : Script) (had : List Asked) → contents s ≡ contents_asked had → begun s ≡ list_any is_call had
begun_told s had told =
    ap (λ n. not (eqb n 0)) (sym (length-map s.calls.items given)) ∙ ap (λ c. not (eqb (length c.calls) 0)) told ∙ begun_asked had

-- nothing stands before what is asked for first
joined_none : (r : Result (List Asked) Mistake) → joined [] r ≡ r
joined_none (Ok more) = refl
joined_none (Err m) = refl

-- two lists stand before in turn
joined_twice : (had asks : List Asked) (r : Result (List Asked) Mistake) → joined (had ++ asks) r ≡ joined had (joined asks r)
joined_twice had asks (Ok more) = ap Ok (append_assoc had asks more)
joined_twice had asks (Err m) = refl

-- a script with no calls and no states to be held has read no line
pub read_none : (n : ℕ) (all : List (List ℕ)) (s : Script) → s.holds.items ≡ [] → s.calls.items ≡ [] → ReadTo n all 0 s
read_none n all s holds calls = record {
  had = [];
  told = ap₂ (λ hs cs. record { holds = hs; calls = map given cs }) holds calls;
  left = joined_none (lines_ask n false 1 all);
}

-- what is added to a script that has what was asked for
told_more : (s t : Script) (had asks : List Asked) → contents s ≡ contents_asked had → Adds s t asks → contents t ≡ contents_asked (had ++ asks)
told_more s t had asks told adds =
    ap₂ (λ hs cs. record { holds = hs; calls = cs })
    (adds.holds ∙ ap (λ c. c.holds ++ flat_map held_state asks) told ∙ sym (flat_map-append held_state had asks))
    (adds.calls ∙ ap (λ c. c.calls ++ flat_map played_calls asks) told ∙ sym (flat_map-append played_calls had asks))

-- where k lines are read, and this is the next
module _ (n : ℕ) (all : List (List ℕ)) (k : ℕ) (s : Script) (r : ReadTo n all k s) (line : List ℕ) (within : k < length all) (here : line ≡ get_or all k line) where
  -- what is left after it, where it asks for this
  abbrev rest : List Asked → Result (List Asked) Mistake
  rest asks = lines_ask n (list_any is_call r.had || list_any is_call asks) (k + 1 + 1) (drop (k + 1) all)

  -- all lines ask for what those before do, then this one, then those after it
  turn : joined r.had (and_then (k + 1) (line_asks n (begun s) line) rest) ≡ lines_ask n false 1 all
  turn =
      let cut : drop k all ≡ line ∷ drop (k + 1) all = at_drop_more (λ ls. ls) all k line within ∙ ap (λ l. l ∷ drop (k + 1) all) (sym here) in
      ap (λ b. joined r.had (and_then (k + 1) (line_asks n b line) rest)) (begun_told s r.had r.told)
      ∙ ap (λ ls. joined r.had (lines_ask n (list_any is_call r.had) (k + 1) ls)) (sym cut) ∙ r.left

  -- a wrong line is the first mistake
  pub read_wrong : (w : Wrong) → line_asks n (begun s) line ≡ Err w → lines_ask n false 1 all ≡ Err (record { line = k + 1; wrong = w })
  read_wrong w e = sym turn ∙ ap (λ a. joined r.had (and_then (k + 1) a rest)) e

  -- else what it asks for is read
  pub read_more : (t : Script) (asks : List Asked) → line_asks n (begun s) line ≡ Ok asks → Adds s t asks → ReadTo n all (k + 1) t
  read_more t asks e adds = record {
    had = r.had ++ asks;
    told = told_more s t r.had asks r.told adds;
    left =
        ap (λ b. joined (r.had ++ asks) (lines_ask n b (k + 1 + 1) (drop (k + 1) all))) (list_any-append is_call r.had asks)
        ∙ joined_twice r.had asks (rest asks)
        ∙ ap (λ a. joined r.had (and_then (k + 1) a rest)) (sym e) ∙ turn;
  }

-- where all lines are read
pub read_all : (n : ℕ) (text : List ℕ) (k : ℕ) (s : Script) → ReadTo n (text_lines text) k s → k ≡ length (text_lines text) → Ok (contents s) ≡ text_read n text
read_all n text k s r e =
    let none : drop k (text_lines text) ≡ [] = drop_all k (text_lines text) (omega (arith, e)) in
    let asks : Ok r.had ≡ lines_ask n false 1 (text_lines text) = ap Ok (sym (append-nil r.had)) ∙ ap (λ ls. joined r.had (lines_ask n (list_any is_call r.had) (k + 1) ls)) (sym none) ∙ r.left in
    ap Ok r.told ∙ ap (λ a. result_map_both contents_asked (λ m. m) a) asks

-- in its replays each verdict is read off the ends before it
pub replays_read_off : (n : ℕ) (all : List (List ℕ)) (k : ℕ) (s : Script) → ReadTo n all k s → ReplaysReadOff s
replays_read_off n all k s r m after p = verdicts_read_off m s.calls.items after r.had (ap (λ c. c.calls) r.told) p

-- a loop over the parts of a text at each LF, counted from 0, which has had the parts xs
module _ {S : Type 0} {steps : S → Option (ℕ × Bor (List ℕ)) → S → Type 0} {s : S} (text : List ℕ) (each : YieldsList steps (λ p. (p.0, p.1.now)) s (enumerate_from 0 (slice_split (λ b. eqb b 10) text))) (xs : List (ℕ × Bor (List ℕ))) (t : S) (yielded : Yields steps s xs t) (u : S) (got : Option (ℕ × Bor (List ℕ))) (step : steps t got u) where
  -- the part that it gets is the next line
  pub next_line : (i : ℕ) (part : Bor (List ℕ)) → got ≡ Some (i, part) → (i ≡ length xs) × (length xs < length (text_lines text)) × (part.now ≡ get_or (text_lines text) (length xs) part.now)
  next_line i part e =
      let next = next_part (slice_split (λ b. eqb b 10) text) each xs t yielded u got step i part e in
      (next.0, rw (sym (split_pieces 10 text)) next.1, next.2 ∙ ap (λ ls. get_or ls (length xs) part.now) (split_pieces 10 text))

  -- where it gets none, it has had all lines
  pub no_line : got ≡ None → length xs ≡ length (text_lines text)
  no_line e = no_part (slice_split (λ b. eqb b 10) text) each xs t yielded u got step e ∙ ap length (split_pieces 10 text)
