-- The lines of a list are reported one after the other.
use Rattle.std.proofs.Common.{◌≡◌, ℕ, ◌+◌, ◌<◌, ◌≤◌, inl, inr, ⊎_elim, arith, List, [], ◌∷◌, ◌++◌, length, get_or, drop, Option, option_to_list, refl, sym, ap, ◌∙◌, subst, append_assoc, append-nil, length-append, count_by}
use Rattle.std.specs.Io.{StartsWith}
use Rattle.std.specs.Io.KnownBytes.{Appends}
use Rattle.std.proofs.KnownBytes.{Appends-nil, Appends-trans}
use Rattle.std.proofs.lemmas.List.{at_drop_more, drop_all, take_all}
use Rattle.model.specs.Mdp.{Mdp, Lawful}
use Rattle.limits_text.specs.declared.outcome.Outcome.{Outcome}
use Rattle.limits_text.specs.Lines.{list_lines}
use Rattle.limits_text.specs.Lists.{Written, nothing, and_more, AppendsFront, LineTorn, LineWritten, LinesWritten, LineBegun, LinesBegun, LineReported, ListReported, ListBegun, Writes, is_formula, formula_count, progress_before}
use Rattle.limits_text.proofs.KeptPromises.{lines_kept, kept_begins, lines_begun_kept, promised}

-- k lines of all are reported, over the model m with n formulas, to writers that had o and p
pub record ReportedTo (m : Mdp) (n : ℕ) (all : List (List ℕ)) (k : ℕ) (o o' p p' : Option (List ℕ)) (outcomes : List Outcome) : Type 0 where
  pub written : Written
  pub outcomes_are : outcomes ≡ written.outcomes
  pub out : Appends o o' written.reports
  pub progress : Appends p p' written.progress
  pub left : (rest : Written) → LinesWritten m n (length written.outcomes) (k + 1) (drop k all) rest → LinesWritten m n 0 1 all (and_more written rest)
  pub begun : (rest : Written) → LinesBegun m n (length written.outcomes) (k + 1) (drop k all) rest → LinesBegun m n 0 1 all (and_more written rest)

-- no line is reported where nothing is written
pub reported_none : (m : Mdp) (n : ℕ) (all : List (List ℕ)) (o p : Option (List ℕ)) → ReportedTo m n all 0 o o p p []
reported_none m n all o p = record {
  written = nothing;
  outcomes_are = refl;
  out = Appends-nil o;
  progress = Appends-nil p;
  left = λ rest lines. lines;
  begun = λ rest lines. lines;
}

-- more that is written joins from the right
and_more_twice : (a b c : Written) → and_more (and_more a b) c ≡ and_more a (and_more b c)
and_more_twice a b c = rw (append_assoc a.progress b.progress c.progress, append_assoc a.reports b.reports c.reports, append_assoc a.outcomes b.outcomes c.outcomes) refl

-- nothing more
and_more_none : (a : Written) → and_more a nothing ≡ a
and_more_none a = rw (append-nil a.progress, append-nil a.reports, append-nil a.outcomes) refl

-- a text begins with itself
starts_with_itself : (text : List ℕ) → StartsWith text text
starts_with_itself text = take_all (length text) text (omega arith)

-- nothing is a beginning of what is written of some lines
begun_none : (m : Mdp) (n i k : ℕ) (ls : List (List ℕ)) → LinesBegun m n i k ls nothing
begun_none m n i k [] = refl
begun_none m n i k (l ∷ ls) = inl (record { told = refl; said = inl refl; outcomes = refl })

-- what is begun of a list keeps the promise
list_begun : (m : Mdp) → Lawful m → (list : List ℕ) (w : Written) → LinesBegun m (formula_count list) 0 1 (list_lines list) w → ListBegun m list w
list_begun m l list w lines = record { lines = lines; promise = promised m l w.reports (lines_begun_kept m l (formula_count list) 0 1 (list_lines list) w lines) }

-- nothing is written where an error comes before the first line
pub torn_first : (m : Mdp) → Lawful m → (list : List ℕ) (o p : Option (List ℕ)) → Writes (ListBegun m list) o o p p
torn_first m l list o p = record {
  written = nothing;
  said = list_begun m l list nothing (begun_none m (formula_count list) 0 1 (list_lines list));
  out = Appends-nil o;
  progress = Appends-nil p;
}

-- a beginning of what is written of a list's lines is one of what is written of the list
pub begun_of_list : (m : Mdp) → Lawful m → (list : List ℕ) (n : ℕ) (all : List (List ℕ)) (o o' p p' : Option (List ℕ)) → all ≡ list_lines list → n ≡ count_by is_formula all → Writes (LinesBegun m n 0 1 all) o o' p p' → Writes (ListBegun m list) o o' p p'
begun_of_list m l list n all o o' p p' lines count w = record {
  written = w.written;
  said = list_begun m l list w.written (subst (λ ls. LinesBegun m (count_by is_formula ls) 0 1 ls w.written) lines (subst (λ i. LinesBegun m i 0 1 all w.written) count w.said));
  out = w.out;
  progress = w.progress;
}

-- where k lines are reported, and this is the next
module _ (m : Mdp) (n : ℕ) (all : List (List ℕ)) (k : ℕ) (o o' p p' : Option (List ℕ)) (before : List Outcome) (r : ReportedTo m n all k o o' p p' before) (line : List ℕ) (within : k < length all) (here : line ≡ get_or all k line) where
  -- it is the first of the lines that were left
  cut : drop k all ≡ line ∷ drop (k + 1) all
  cut = at_drop_more (λ ls. ls) all k line within ∙ ap (λ l. l ∷ drop (k + 1) all) (sym here)

  -- what is written of it and of the lines after it is what is written of the lines that were left
  turn : (first rest : Written) → LineWritten m n (length r.written.outcomes) (k + 1) line first → LinesWritten m n (length (r.written.outcomes ++ first.outcomes)) (k + 1 + 1) (drop (k + 1) all) rest → LinesWritten m n 0 1 all (and_more (and_more r.written first) rest)
  turn first rest this others =
      let after = subst (λ i. LinesWritten m n i (k + 1 + 1) (drop (k + 1) all) rest) (length-append r.written.outcomes first.outcomes) others in
      let left = subst (λ ls. LinesWritten m n (length r.written.outcomes) (k + 1) ls (and_more first rest)) (sym cut) (first, rest, this, after, refl) in
      subst (LinesWritten m n 0 1 all) (sym (and_more_twice r.written first rest)) (r.left (and_more first rest) left)

  -- the same of a beginning of what is written of the lines after it
  turn_begun : (first rest : Written) → LineWritten m n (length r.written.outcomes) (k + 1) line first → LinesBegun m n (length (r.written.outcomes ++ first.outcomes)) (k + 1 + 1) (drop (k + 1) all) rest → LinesBegun m n 0 1 all (and_more (and_more r.written first) rest)
  turn_begun first rest this others =
      let after = subst (λ i. LinesBegun m n i (k + 1 + 1) (drop (k + 1) all) rest) (length-append r.written.outcomes first.outcomes) others in
      let left = subst (λ ls. LinesBegun m n (length r.written.outcomes) (k + 1) ls (and_more first rest)) (sym cut) (inr (first, rest, this, after, refl)) in
      subst (LinesBegun m n 0 1 all) (sym (and_more_twice r.written first rest)) (r.begun (and_more first rest) left)

  -- where only a beginning of it is written, this is a beginning of what is written of all lines
  torn : (o'' p'' : Option (List ℕ)) (w : Written) → LineBegun m n (length r.written.outcomes) (k + 1) line w → Appends o' o'' w.reports → Appends p' p'' w.progress → Writes (LinesBegun m n 0 1 all) o o'' p p''
  torn o'' p'' w this out progress = record {
    written = and_more r.written w;
    said = r.begun w (subst (λ ls. LinesBegun m n (length r.written.outcomes) (k + 1) ls w) (sym cut) (inl this));
    out = Appends-trans o o' o'' r.written.reports w.reports r.out out;
    progress = Appends-trans p p' p'' r.written.progress w.progress r.progress progress;
  }

  -- what is told before it is counted by the outcomes so far
  told_before : (i : ℕ) → i ≡ length before → progress_before (i + 1) n line ≡ progress_before (length r.written.outcomes + 1) n line
  told_before i had = ap (λ j. progress_before (j + 1) n line) (had ∙ ap length r.outcomes_are)

  -- an error came while it was told of
  pub torn_told : (p'' : Option (List ℕ)) (i : ℕ) → i ≡ length before → AppendsFront p' p'' (progress_before (i + 1) n line) → Writes (LinesBegun m n 0 1 all) o o' p p''
  torn_told p'' i had t =
      torn o' p'' (record { progress = t.front; reports = []; outcomes = [] })
      (record { told = subst (λ z. StartsWith z t.front) (told_before i had) t.begins; said = inl refl; outcomes = refl })
      (Appends-nil o') t.appended

  -- an error came while its report was made or written
  pub torn_report : (o'' p'' : Option (List ℕ)) (i : ℕ) → i ≡ length before → Appends p' p'' (progress_before (i + 1) n line) → LineTorn m (k + 1) line o' o'' → Writes (LinesBegun m n 0 1 all) o o'' p p''
  torn_report o'' p'' i had told t =
      torn o'' p'' (record { progress = progress_before (i + 1) n line; reports = t.bytes; outcomes = [] })
      (record { told = subst (λ z. StartsWith z (progress_before (i + 1) n line)) (told_before i had) (starts_with_itself (progress_before (i + 1) n line)); said = ⊎_elim (λ e. inl e) (λ b. inr (told_before i had, b)) t.said; outcomes = refl })
      t.out told

  -- an error came when it was reported, before its outcome was kept
  pub torn_kept : (o'' p'' : Option (List ℕ)) (i : ℕ) (outcome : Option Outcome) → i ≡ length before → Appends p' p'' (progress_before (i + 1) n line) → LineReported m (k + 1) line o' o'' outcome → Writes (LinesBegun m n 0 1 all) o o'' p p''
  torn_kept o'' p'' i outcome had told t =
      torn_report o'' p'' i had told
      (record { bytes = t.report; said = inr (record { report = t.report; outcome = outcome; answer = t.answer; begins = starts_with_itself t.report }); out = t.out })

  -- it is told of, if it is a formula, and reported, and its outcome kept, if it has one
  pub reported_more : (o'' p'' : Option (List ℕ)) (i : ℕ) (after : List Outcome) (outcome : Option Outcome) → i ≡ length before → Appends p' p'' (progress_before (i + 1) n line) → LineReported m (k + 1) line o' o'' outcome → after ≡ before ++ option_to_list outcome → ReportedTo m n all (k + 1) o o'' p p'' after
  reported_more o'' p'' i after outcome had told reported kept =
      let first : Written = record { progress = progress_before (i + 1) n line; reports = reported.report; outcomes = option_to_list outcome } in
      let this : LineWritten m n (length r.written.outcomes) (k + 1) line first = record { outcome = outcome; report = reported.answer; outcomes = refl; progress = ap (λ j. progress_before (j + 1) n line) (had ∙ ap length r.outcomes_are) } in
      record {
        written = and_more r.written first;
        outcomes_are = kept ∙ ap (λ os. os ++ option_to_list outcome) r.outcomes_are;
        out = Appends-trans o o' o'' r.written.reports reported.report r.out reported.out;
        progress = Appends-trans p p' p'' r.written.progress first.progress r.progress told;
        left = λ rest others. turn first rest this others;
        begun = λ rest others. turn_begun first rest this others;
      }

-- where the lines of a list are all reported, the list is
pub reported_all : (m : Mdp) → Lawful m → (list : List ℕ) (n : ℕ) (all : List (List ℕ)) (k : ℕ) (o o' p p' : Option (List ℕ)) (outcomes : List Outcome) → all ≡ list_lines list → n ≡ count_by is_formula all → ReportedTo m n all k o o' p p' outcomes → length all ≤ k → Writes (ListReported m list outcomes) o o' p p'
reported_all m l list n all k o o' p p' outcomes lines count r past =
    let left = r.left nothing (subst (λ ls. LinesWritten m n (length r.written.outcomes) (k + 1) ls nothing) (sym (drop_all k all past)) refl) in
    let whole = subst (LinesWritten m n 0 1 all) (and_more_none r.written) left in
    let written = subst (λ ls. LinesWritten m (count_by is_formula ls) 0 1 ls r.written) lines (subst (λ i. LinesWritten m i 0 1 all r.written) count whole) in
    record {
      written = r.written;
      said = record {
        lines = written;
        promise = promised m l r.written.reports (kept_begins m l r.written.reports (lines_kept m l (formula_count list) 0 1 (list_lines list) r.written written));
        outcomes_are = r.outcomes_are;
      };
      out = r.out;
      progress = r.progress;
    }
