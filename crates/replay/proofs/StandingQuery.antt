-- The query that stands after calls is worked out call by call, and no other stands.
use Rattle.std.proofs.Common.{◌≡◌, ℕ, ◌+◌, List, [], ◌∷◌, ◌++◌, Some, None, Ok, Err, Option, Result, refl, sym, ◌∙◌, ap, subst, append_assoc, append-nil, arith}
use Rattle.std.specs.Prelude.{sum_by, All, Any}
use Rattle.std.proofs.Math.ListN.{length}
use Rattle.std.proofs.lemmas.List.{length-append, get_or_append_left, get_or-append-add}
use Rattle.std.proofs.lemmas.List.Elements.{All-nil, All-cons, All-head, All-tail, All-append}
use Rattle.std.proofs.lemmas.List.Sums.{sum_by-append}
use Rattle.std.specs.declared.alloc.Global.{Global}
use Rattle.std.specs.declared.vec.Vec.{Vec}
use Rattle.rules.specs.declared.part.Part.{Part}
use Rattle.records.specs.declared.comparison.Comparison.{Comparison}
use Rattle.records.specs.declared.record.Record.{Record}
use Rattle.records.specs.declared.fault.JudgeFault.{JudgeFault}
use Rattle.trial.specs.declared.aim.Aim.{Aim}
use Rattle.trial.specs.Queries.{Query}
use Rattle.trial.specs.declared.fault.TrialFault.{TrialFault}
use Rattle.trial.specs.declared.verdict.Verdict.{Verdict}
use Rattle.trial.specs.Judging.{query_after}
use Rattle.trial.specs.Answers.{answer, unless, advance_fault, with_rounds, advanced}
use Rattle.replay.specs.declared.call.Call.{Call}
use Rattle.replay.specs.declared.call.Call.TheVariants as call
use Rattle.replay.specs.Standing.{Starts, IsAcceptedStart, IsAcceptedJudge, added, StandsSince, Stands}

-- the query that stands after one more call
abbrev pub next_query : Call → Option Query → Option Query
next_query (call.Start left right aim (Some (Ok u))) o = Some (record { left = left.items; right = right.items; aim = aim; rounds = 0 })
next_query (call.Advance count (Some (Ok u))) (Some q) = Some (with_rounds count q)
next_query (call.Judge text records scratch out (Some (Ok n))) o = None
next_query c o = o

-- the query that stands after more calls
abbrev pub query_from : Option Query → List Call → Option Query
query_from o [] = o
query_from o (c ∷ cs) = query_from (next_query c o) cs

-- two queries of the same marks and aim, with the same rounds, are the same
query_same : (p q : Query) → p.left ≡ q.left → p.right ≡ q.right → p.aim ≡ q.aim → p.rounds ≡ q.rounds → p ≡ q
query_same p q a b c d = λ i. record { left = a i; right = b i; aim = c i; rounds = d i }

-- what a call does to the query that stands: it starts one, or lets none stand, or adds rounds to it
pub data Effect (c : Call) : Type 0 where
  starts : (q : Query) → Starts c q.left q.right q.aim → q.rounds ≡ 0 → ((l r : List ℕ) (a : Aim) → Starts c l r a → (q.left ≡ l) × (q.right ≡ r) × (q.aim ≡ a)) →
      ((o : Option Query) → next_query c o ≡ Some q) → Effect c
  judged : IsAcceptedJudge c → ¬ (IsAcceptedStart c) → ((o : Option Query) → next_query c o ≡ None) → Effect c
  adds : ¬ (IsAcceptedStart c) → ¬ (IsAcceptedJudge c) → ((q : Query) → next_query c (Some q) ≡ Some (with_rounds (added c) q)) → next_query c None ≡ None → Effect c

-- no round more is the same query
none_added : (q : Query) → ◌≡◌ {A = Option Query} (Some q) (Some (with_rounds 0 q))
none_added q = ap Some (query_same q (with_rounds 0 q) refl refl refl (omega arith))

-- of a call that is no start
no_start : (l r : List ℕ) × (a : Aim) × ⊥ → ⊥
no_start (l, r, a, h) = h

-- each call has one of the three effects
pub effect : (c : Call) → Effect c
effect (call.Start left right aim (Some (Ok u))) = starts (record { left = left.items; right = right.items; aim = aim; rounds = 0 }) (refl, refl, refl) refl (λ l r a h. h) (λ o. refl)
effect (call.Start left right aim (Some (Err e))) = adds no_start (λ h. h) none_added refl
effect (call.Start left right aim None) = adds no_start (λ h. h) none_added refl
effect (call.Advance count (Some (Ok u))) = adds no_start (λ h. h) (λ q. refl) refl
effect (call.Advance count (Some (Err e))) = adds no_start (λ h. h) none_added refl
effect (call.Advance count None) = adds no_start (λ h. h) none_added refl
effect (call.Ends state a) = adds no_start (λ h. h) none_added refl
effect (call.Verdict state comparison bound a) = adds no_start (λ h. h) none_added refl
effect (call.Judge text records scratch out (Some (Ok n))) = judged tt no_start (λ o. refl)
effect (call.Judge text records scratch out (Some (Err e))) = adds no_start (λ h. h) none_added refl
effect (call.Judge text records scratch out None) = adds no_start (λ h. h) none_added refl

-- a list with one more call at its end, cut at a call: that is the last one, or the rest was cut there before
pub data Cut (calls : List Call) (c : Call) (before : List Call) (start : Call) (since : List Call) : Type 0 where
  last : start ≡ c → Cut calls c before start since
  earlier : (rest : List Call) → since ≡ rest ++ (c ∷ []) → calls ≡ before ++ (start ∷ rest) → Cut calls c before start since

-- one of the two it is
pub cut : (calls : List Call) (c : Call) (before : List Call) (start : Call) (since : List Call) → calls ++ (c ∷ []) ≡ before ++ (start ∷ since) → Cut calls c before start since
cut [] c [] start since e = last cc
cut [] c (b ∷ bs) start since e = absurd (omega (arith, ap length e, length-append bs (start ∷ since)))
cut (x ∷ xs) c [] start since e = let f : xs ++ (c ∷ []) ≡ since = cc in let g : x ≡ start = cc in earlier xs (sym f) (ap (λ (y : Call). y ∷ xs) g)
cut (x ∷ xs) c (b ∷ bs) start since e =
    let f : xs ++ (c ∷ []) ≡ bs ++ (start ∷ since) = cc in
    let g : x ≡ b = cc in
    elim (cut xs c bs start since f) [ last h ↦ last h | earlier rest h k ↦ earlier rest h (ap (λ (y : Call). y ∷ xs) g ∙ ap (λ (ys : List Call). b ∷ ys) k) ]

-- a fact of one call is one of the list of that call
of_one : (P : Call → Type 0) (c : Call) → P c → All P (c ∷ [])
of_one P c h = All-cons P c [] h (All-nil P)

-- some call is so, also with one more at the end
still_some : (P : Call → Type 0) (cs : List Call) (c : Call) → Any P cs → Any P (cs ++ (c ∷ []))
still_some P cs c (k, x, h, e, p) = (k, x, omega (arith, length-append cs (c ∷ [])), get_or_append_left cs (c ∷ []) x k h ∙ e, p)

-- the last call is so
last_so : (P : Call → Type 0) (cs : List Call) (c : Call) → P c → Any P (cs ++ (c ∷ []))
last_so P cs c p = (length cs + 0, c, omega (arith, length-append cs (c ∷ [])), get_or-append-add cs (c ∷ []) 0 c, p)

-- where a query stands or none, the one after one more call stands then
pub one_more : (calls : List Call) (c : Call) (o : Option Query) → Effect c → Stands calls o → Stands (calls ++ (c ∷ [])) (next_query c o)
one_more calls c o (starts q h z same next) stood =
    rw (next o) (record { before = calls; start = c; since = []; split = refl; started = h; no_start = All-nil (λ d. ¬ (IsAcceptedStart d)); no_judge = All-nil (λ d. ¬ (IsAcceptedJudge d)); rounds = z })
one_more calls c o (judged h n next) stood =
    rw (next o) (λ before since start e s. elim (cut calls c before start since e) [ last f ↦ absurd (n (subst IsAcceptedStart f s)) | earlier rest f g ↦ rw f (last_so IsAcceptedJudge rest c h) ])
one_more calls c None (adds n j next none) stood =
    rw none (λ before since start e s. elim (cut calls c before start since e) [
      | last f ↦ absurd (n (subst IsAcceptedStart f s))
      | earlier rest f g ↦ rw f (still_some IsAcceptedJudge rest c (stood before rest start g s))
    ])
one_more calls c (Some q) (adds n j next none) stood =
    rw (next q) (record {
      before = stood.before;
      start = stood.start;
      since = stood.since ++ (c ∷ []);
      split = ap (λ (ys : List Call). ys ++ (c ∷ [])) stood.split ∙ append_assoc stood.before (stood.start ∷ stood.since) (c ∷ []);
      started = stood.started;
      no_start = All-append (λ d. ¬ (IsAcceptedStart d)) stood.since (c ∷ []) stood.no_start (of_one (λ d. ¬ (IsAcceptedStart d)) c n);
      no_judge = All-append (λ d. ¬ (IsAcceptedJudge d)) stood.since (c ∷ []) stood.no_judge (of_one (λ d. ¬ (IsAcceptedJudge d)) c j);
      rounds = omega (arith, stood.rounds, sum_by-append added stood.since (c ∷ []));
    })

-- and likewise after more calls
more : (cs calls : List Call) (o : Option Query) → Stands calls o → Stands (calls ++ cs) (query_from o cs)
more [] calls o stood = rw append-nil stood
more (c ∷ cs) calls o stood = rw append_assoc at (more cs (calls ++ (c ∷ [])) (next_query c o) (one_more calls c o (effect c) stood))

-- before the first call none stands
pub stands_first : Stands [] None
stands_first before since start e s = absurd (omega (arith, ap length e, length-append before (start ∷ since)))

-- so the query that is worked out stands
pub stands : (calls : List Call) → Stands calls (query_from None calls)
stands calls = more calls [] None stands_first

-- where no call is an accepted start or judge, rounds are added and nothing else is done
quiet : (cs : List Call) (q : Query) → All (λ d. ¬ (IsAcceptedStart d)) cs → All (λ d. ¬ (IsAcceptedJudge d)) cs → query_from (Some q) cs ≡ Some (with_rounds (sum_by added cs) q)
quiet [] q a b = none_added q
quiet (c ∷ cs) q a b = elim (effect c) [
  | starts p h z same next ↦ absurd (All-head (λ d. ¬ (IsAcceptedStart d)) c cs a (p.left, p.right, p.aim, h))
  | judged h n next ↦ absurd (All-head (λ d. ¬ (IsAcceptedJudge d)) c cs b h)
  | adds n j next none ↦
      let rest = quiet cs (with_rounds (added c) q) (All-tail (λ d. ¬ (IsAcceptedStart d)) c cs a) (All-tail (λ d. ¬ (IsAcceptedJudge d)) c cs b) in
      let sum = sum_by-append added (c ∷ []) cs in
      ap (λ (o : Option Query). query_from o cs) (next q) ∙ rest ∙ ap Some (query_same _ (with_rounds (sum_by added (c ∷ cs)) q) refl refl refl (omega arith))
]

-- calls one after the other
after_both : (cs ds : List Call) (o : Option Query) → query_from o (cs ++ ds) ≡ query_from (query_from o cs) ds
after_both [] ds o = refl
after_both (c ∷ cs) ds o = after_both cs ds (next_query c o)

-- a query that stands is the one that is worked out
worked_out : (calls : List Call) (q : Query) → StandsSince calls q → query_from None calls ≡ Some q
worked_out calls q s = ap (query_from None) s.split ∙ after_both s.before (s.start ∷ s.since) None ∙ elim (effect s.start) [
  | starts p h z same next ↦
      let f = same q.left q.right q.aim s.started in
      ap (λ (o : Option Query). query_from o s.since) (next (query_from None s.before)) ∙ quiet s.since p s.no_start s.no_judge
      ∙ ap Some (query_same (with_rounds (sum_by added s.since) p) q f.0 f.1 f.2 (omega (arith, s.rounds)))
  | judged h n next ↦ absurd (n (q.left, q.right, q.aim, s.started))
  | adds n j next none ↦ absurd (n (q.left, q.right, q.aim, s.started))
]

-- no query stands where none does
clash : (calls : List Call) (q : Query) → Stands calls None → StandsSince calls q → ⊥
clash calls q none s =
    let (k, c, h, e, p) = none s.before s.since s.start s.split (q.left, q.right, q.aim, s.started) in
    s.no_judge k c h (subst IsAcceptedJudge (sym e) p)

-- what stands is the query that is worked out, or none where none is
pub only : (calls : List Call) (o : Option Query) → Stands calls o → o ≡ query_from None calls
only calls (Some q) stood = sym (worked_out calls q stood)
only calls None stood = none_only (query_from None calls) (stands calls)
  where
    none_only : (p : Option Query) → Stands calls p → None ≡ p
    none_only None s = refl
    none_only (Some q) s = absurd (clash calls q stood s)

-- a call that leaves the next query
pub stands_then : (c : Call) (o p : Option Query) → p ≡ next_query c o → (calls : List Call) → Stands calls o → Stands (calls ++ (c ∷ [])) p
stands_then c o p e calls stood = rw e (one_more calls c o (effect c) stood)

-- a start, which has one fault or none
pub after_start : (left right : Vec ℕ Global) (aim : Aim) (o p : Option Query) (f : Option TrialFault) (r : Result (Unit {0}) TrialFault) → r ≡ answer f →
    p ≡ unless f o (Some (record { left = left.items; right = right.items; aim = aim; rounds = 0 })) →
    (calls : List Call) → Stands calls o → Stands (calls ++ (call.Start left right aim (Some r) ∷ [])) p
after_start left right aim o p f r a e = rw a (stands_then (call.Start left right aim (Some (answer f))) o p (e ∙ next f))
  where
    next : (f : Option TrialFault) → unless f o (Some (record { left = left.items; right = right.items; aim = aim; rounds = 0 })) ≡ next_query (call.Start left right aim (Some (answer f))) o
    next None = refl
    next (Some x) = refl

-- an advance
pub after_advance : (count : ℕ) (o p : Option Query) (r : Result (Unit {0}) TrialFault) → r ≡ answer (advance_fault o count) → p ≡ advanced o count →
    (calls : List Call) → Stands calls o → Stands (calls ++ (call.Advance count (Some r) ∷ [])) p
after_advance count o p r a e = rw a (stands_then (call.Advance count (Some (answer (advance_fault o count)))) o p (e ∙ next o))
  where
    one : (q : Query) (f : Option TrialFault) → unless f (Some q) (Some (with_rounds count q)) ≡ next_query (call.Advance count (Some (answer f))) (Some q)
    one q None = refl
    one q (Some x) = refl

    next : (o : Option Query) → advanced o count ≡ next_query (call.Advance count (Some (answer (advance_fault o count)))) o
    next None = refl
    next (Some q) = one q (advance_fault (Some q) count)

-- a call for ends or for a verdict
pub after_ends : (state : ℕ) (r : Option (Result (Part × Part × ℕ) TrialFault)) (o : Option Query) (calls : List Call) → Stands calls o → Stands (calls ++ (call.Ends state r ∷ [])) o
after_ends state r o = stands_then (call.Ends state r) o o refl

pub after_verdict : (state : ℕ) (c : Comparison) (b : ℕ) (r : Option (Result Verdict TrialFault)) (o : Option Query) (calls : List Call) → Stands calls o → Stands (calls ++ (call.Verdict state c b r ∷ [])) o
after_verdict state c b r o = stands_then (call.Verdict state c b r) o o refl

-- a judge
pub after_judge : (text : Vec ℕ Global) (records : Vec Record Global) (scratch out : Vec ℕ Global) (r : Result ℕ JudgeFault) (o p : Option Query) → p ≡ query_after r o →
    (calls : List Call) → Stands calls o → Stands (calls ++ (call.Judge text records scratch out (Some r) ∷ [])) p
after_judge text records scratch out r o p e = stands_then (call.Judge text records scratch out (Some r)) o p (e ∙ next r)
  where
    next : (r : Result ℕ JudgeFault) → query_after r o ≡ next_query (call.Judge text records scratch out (Some r)) o
    next (Ok n) = refl
    next (Err x) = refl
