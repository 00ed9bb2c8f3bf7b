-- What each form of a formula adds to what is known of its parts.
use Rattle.std.proofs.Common.{◌≡◌, ℕ, ◌+◌, ◌-◌, ◌<◌, ◌≤◌, List, [], ◌∷◌, ◌++◌, length, get_or, set, Some, None, Ok, Err, Option, Result, sym, refl, ap, ◌∙◌, subst, append_assoc, add-zero, arith, length-append}
use Rattle.theory.specs.Formulas.{Comparison, Formula, PathFormula, truth, label, negation, conjunction, next, until_within, until, at_most, most_steps}
use Rattle.theory.specs.Formulas as theory
use Rattle.grammar.specs.Words.{Stands, Read}
use Rattle.grammar.specs.Spelling.{sign, print, print_path, print_bound}
use Rattle.grammar.specs.Languages.{Just, StateWord, PathWord}
use Rattle.grammar.proofs.Chains.{byte_stands, stands_then}
use Rattle.grammar.proofs.Formulas.{state_read, path_read, atom_refused}
use Rattle.records.specs.declared.comparison.Comparison.{Comparison as Code}
use Rattle.records.specs.declared.comparison.Comparison.TheVariants.{Below, AtMost, Above, AtLeast}
use Rattle.formula.specs.declared.token.Number.{Number}
use Rattle.formula.specs.declared.token.Bound.{Bound}
use Rattle.records.specs.declared.record.Kind.TheVariants.{Truth, Label, Negation, Conjunction}
use Rattle.records.specs.declared.record.Record.{Record}
use Rattle.formula.specs.declared.reading.Reading.{Reading}
use Rattle.formula.specs.declared.reading.Path.{Path}
use Rattle.formula.specs.Tokens.{meant, BoundRead, StepsRead}
use Rattle.formula.specs.Records.{size, path_size, coded, line, own, path_kind, path_first, path_second, path_steps, records, path_records}
use Rattle.formula.specs.Questions.{unbounded}
use Rattle.formula.specs.Readings.{kind_unbounded, atom, joined, entire, next_path, until_path, probability, path_record, overlaid, StateRead, PathRead, StateReads, AtomReads}

-- what is written over what was written
overlaid_append : (lent : List Record) (k n : ℕ) (rs xs : List Record) → n ≡ k + length rs → overlaid (overlaid lent k rs) n xs ≡ overlaid lent k (rs ++ xs)
overlaid_append lent k n [] xs e = ap (λ z. overlaid lent z xs) (e ∙ add-zero k)
overlaid_append lent k n (r ∷ rs) xs e = overlaid_append (set lent k r) (k + 1) n rs xs (omega (arith, e))

-- one list written after another is both written
overlaid_then : (o o₁ o₂ : List Record) (k n : ℕ) (rs xs : List Record) → o₁ ≡ overlaid o k rs → n ≡ k + length rs → o₂ ≡ overlaid o₁ n xs → o₂ ≡ overlaid o k (rs ++ xs)
overlaid_then o o₁ o₂ k n rs xs p q r = r ∙ ap (λ z. overlaid z n xs) p ∙ overlaid_append o k n rs xs q

-- a formula has as many records as it has formulas
mutual
  pub length_records : (f : Formula) (k : ℕ) → length (records k f) ≡ size f
  length_records truth k = refl
  length_records (label i) k = refl
  length_records (negation f) k = omega (arith, length-append (records k f) (line Negation (own k f) 0 None 0 0 ∷ []), length_records f k)
  length_records (conjunction f g) k =
      let last = line Conjunction (own k f) (own (k + size f) g) None 0 0 in
      omega (arith, length_records f k, length_records g (k + size f), length-append (records k f) (records (k + size f) g ++ (last ∷ [])), length-append (records (k + size f) g) (last ∷ []))
  length_records (theory.probability c b p) k =
      omega (arith, length_path_records p k, length-append (path_records k p) (line (path_kind p) (path_first k p) (path_second k p) (Some (coded c)) b (path_steps p) ∷ []))

  -- so has a path formula
  length_path_records : (p : PathFormula) (k : ℕ) → length (path_records k p) ≡ path_size p
  length_path_records (next f) k = length_records f k
  length_path_records (until_within n f g) k = omega (arith, length_records f k, length_records g (k + size f), length-append (records k f) (records (k + size f) g))
  length_path_records (until f g) k = omega (arith, length_records f k, length_records g (k + size f), length-append (records k f) (records (k + size f) g))

-- a comparison comes back from its meaning
coded_meant : (c : Code) → coded (meant c) ≡ c
coded_meant Below = refl
coded_meant AtMost = refl
coded_meant Above = refl
coded_meant AtLeast = refl

-- the kind tells whether a path is an until without steps
by_kind : (p : PathFormula) (c : Comparison) (b at : ℕ) → kind_unbounded (path_kind p) c b at ≡ unbounded c b p at
by_kind (next f) c b at = refl
by_kind (until_within k f g) c b at = refl
by_kind (until f g) c b at = refl

-- one byte that was read
byte : {c : ℕ} {w t : List ℕ} {a e : ℕ} → Read (Just c) w t a e → Stands (c ∷ []) t a e
byte {c} {w} {t} {a} {e} r = subst (λ (z : List ℕ). Stands z t a e) r.lawful r.stands

module _ {t : List ℕ} {a k : ℕ} {o o₁ : List Record} (small : k ≤ a) where
  -- `true`
  pub read_truth : {e : ℕ} → Stands (print truth) t a e → {x : Record} → x ≡ line Truth 0 0 None 0 0 → o₁ ≡ set o k x → StateRead t a k o o₁ (atom e k)
  read_truth {e} s {x} i w = record {
    formula = truth;
    spelled = tt;
    stands = s;
    counts = refl;
    deep = refl;
    large = refl;
    unbounded = refl;
    written = w ∙ ap (λ z. set o k z) i;
    some = omega arith;
    held = omega (arith, s.place);
    short = omega (arith, s.place);
    ahead = omega (arith, s.place);
    within = s.within;
  }

  -- a letter
  pub read_label : a < length t → 97 ≤ get_or t a 0 → get_or t a 0 ≤ 112 → {x : Record} → x ≡ line Label 0 0 None (get_or t a 0 - 97) 0 → o₁ ≡ set o k x → StateRead t a k o o₁ (atom (a + 1) k)
  read_label l lo hi {x} i w = record {
    formula = label (get_or t a 0 - 97);
    spelled = omega arith;
    stands = byte_stands (97 + (get_or t a 0 - 97)) t a l (let e : get_or t a 0 ≡ 97 + (get_or t a 0 - 97) = omega arith in e);
    counts = refl;
    deep = refl;
    large = refl;
    unbounded = refl;
    written = w ∙ ap (λ z. set o k z) i;
    some = omega arith;
    held = omega arith;
    short = omega arith;
    ahead = omega arith;
    within = omega arith;
  }

-- `!f`
pub read_negation : {t : List ℕ} {a k : ℕ} {o o₁ o₂ : List Record} {r : Reading} → a < length t → get_or t a 0 ≡ 33 → StateRead t (a + 1) k o o₁ r → {x : Record} → x ≡ line Negation (r.count - 1) 0 None 0 0 → o₂ ≡ set o₁ r.count x → StateRead t a k o o₂ (entire r r.end)
read_negation {t} {a} {k} {o} {o₁} {o₂} {r} l is s {x} i w =
    let f = s.formula in
    record {
      formula = negation f;
      spelled = s.spelled;
      stands = stands_then (byte_stands 33 t a l is) s.stands;
      counts = omega (arith, s.counts);
      deep = ap (λ z. z + 1) s.deep;
      large = s.large;
      unbounded = s.unbounded;
      written =
          overlaid_then o o₁ o₂ k r.count (records k f) _ s.written (s.counts ∙ ap (λ z. k + z) (sym (length_records f k)))
          (w ∙ ap (λ z. set o₁ r.count z) i ∙ ap (λ z. set o₁ r.count (line Negation (z - 1) 0 None 0 0)) s.counts);
      some = omega (arith, s.some);
      held = omega (arith, s.held);
      short = omega (arith, s.short);
      ahead = omega (arith, s.ahead);
      within = s.within;
    }

-- the records of two parts, one after another
pair : {t : List ℕ} {a b k : ℕ} {o o₁ o₂ : List Record} {l r : Reading} (s : StateRead t a k o o₁ l) (s' : StateRead t b l.count o₁ o₂ r) → o₂ ≡ overlaid o k (records k s.formula ++ records (k + size s.formula) s'.formula)
pair {k = k} {o = o} {o₁ = o₁} {o₂ = o₂} {l = l} s s' =
    let f = s.formula in
    let g = s'.formula in
    overlaid_then o o₁ o₂ k l.count (records k f) (records (k + size f) g) s.written (s.counts ∙ ap (λ z. k + z) (sym (length_records f k)))
    (s'.written ∙ ap (λ z. overlaid o₁ l.count (records z g)) s.counts)

-- `(f&g)`
pub read_conjunction : {t u v : List ℕ} {a k m e : ℕ} {o o₁ o₂ o₃ : List Record} {l r : Reading} → a < length t → get_or t a 0 ≡ 40 → StateRead t (a + 1) k o o₁ l → Read (Just 38) u t l.end m → StateRead t m l.count o₁ o₂ r → Read (Just 41) v t r.end e
    → {x : Record} → x ≡ line Conjunction (l.count - 1) (r.count - 1) None 0 0 → o₃ ≡ set o₂ r.count x → StateRead t a k o o₃ (entire (joined l r) e)
read_conjunction {t} {u} {v} {a} {k} {m} {e} {o} {o₁} {o₂} {o₃} {l} {r} inside is s j s' j' {x} i w =
    let f = s.formula in
    let g = s'.formula in
    let p : m ≡ l.end + 1 = (byte j).place in
    let p' : e ≡ r.end + 1 = (byte j').place in
    let here : m ≡ a + 1 + length (print f) + 1 = omega (arith, p, s.stands.place) in
    let last = line Conjunction (own k f) (own (k + size f) g) None 0 0 in
    let total : r.count ≡ k + size f + size g = omega (arith, s.counts, s'.counts) in
    let counted : r.count ≡ k + length (records k f ++ records (k + size f) g) = omega (arith, total, length-append (records k f) (records (k + size f) g), length_records f k, length_records g (k + size f)) in
    record {
      formula = conjunction f g;
      spelled = (s.spelled, s'.spelled);
      stands = stands_then (byte_stands 40 t a inside is) (stands_then s.stands (stands_then (byte j) (stands_then s'.stands (byte j'))));
      counts = omega (arith, total);
      deep = rw (s.deep, s'.deep) refl;
      large = rw (s.large, s'.large, here) refl;
      unbounded = rw (s.unbounded, s'.unbounded, here) refl;
      written =
          overlaid_then o o₂ o₃ k r.count (records k f ++ records (k + size f) g) (last ∷ []) (pair s s') counted
          (w ∙ ap (λ z. set o₂ r.count z) i ∙ ap (λ z. set o₂ r.count (line Conjunction (z - 1) (r.count - 1) None 0 0)) s.counts ∙ ap (λ z. set o₂ r.count (line Conjunction (own k f) (z - 1) None 0 0)) total)
          ∙ ap (λ z. overlaid o k z) (append_assoc (records k f) (records (k + size f) g) (last ∷ []));
      some = omega (arith, s.some, s'.some);
      held = omega (arith, s.held, s'.held, p, p');
      short = omega (arith, s.short, s'.short, s.ahead, s'.ahead, p, p');
      ahead = omega (arith, s.ahead, s'.ahead, p, p');
      within = j'.stands.within;
    }

-- `P`, a bound and `[path]`
pub read_probability : {t u v : List ℕ} {a k m e : ℕ} {o o₁ o₂ : List Record} {b : Bound} {q : Path} → a < length t → get_or t a 0 ≡ 80 → BoundRead t (a + 1) b → Read (Just 91) u t b.end m → PathRead t m k o o₁ q → Read (Just 93) v t q.parts.end e
    → {x : Record} → x ≡ path_record q b → o₂ ≡ set o₁ q.parts.count x → StateRead t a k o o₂ (probability a b q e)
read_probability {t} {u} {v} {a} {k} {m} {e} {o} {o₁} {o₂} {b} {q} inside is d j s j' {x} i w =
    let path = s.path in
    let c = meant b.comparison in
    let n = b.number.value in
    let p : m ≡ b.end + 1 = (byte j).place in
    let p' : e ≡ q.parts.end + 1 = (byte j').place in
    let here : m ≡ a + 1 + length (print_bound c n) + 1 = omega (arith, p, d.read.stands.place) in
    record {
      formula = theory.probability c n path;
      spelled = (d.few, s.spelled);
      stands = stands_then (byte_stands 80 t a inside is) (stands_then d.read.stands (stands_then (byte j) (stands_then s.stands (byte j'))));
      counts = omega (arith, s.counts);
      deep = ap (λ z. z + 1) s.deep;
      large = rw (d.place, s.large, here) refl;
      unbounded = rw (s.kind, by_kind path c n a, s.unbounded, here) refl;
      written =
          overlaid_then o o₁ o₂ k q.parts.count (path_records k path) _ s.written (s.counts ∙ ap (λ z. k + z) (sym (length_path_records path k)))
          (w ∙ ap (λ z. set o₁ q.parts.count z) (i ∙ same));
      some = omega (arith, s.some);
      held = omega (arith, s.held, p, p', d.ahead);
      short = omega (arith, s.short, p, p', d.ahead);
      ahead = omega (arith, s.ahead, p, p', d.ahead);
      within = j'.stands.within;
    }
  where
    same : path_record q b ≡ line (path_kind s.path) (path_first k s.path) (path_second k s.path) (Some (coded (meant b.comparison))) b.number.value (path_steps s.path)
    same =
        let e₁ = s.kind in
        let e₂ = s.first in
        let e₃ = s.second in
        let e₄ = s.steps in
        let e₅ = coded_meant b.comparison in
        cc

-- `Xf`
pub read_next : {t : List ℕ} {a k : ℕ} {o o₁ : List Record} {r : Reading} → a < length t → get_or t a 0 ≡ 88 → StateRead t (a + 1) k o o₁ r → PathRead t a k o o₁ (next_path r)
read_next {t} {a} {k} {o} {o₁} {r} inside is s = record {
  path = next s.formula;
  spelled = s.spelled;
  stands = stands_then (byte_stands 88 t a inside is) s.stands;
  counts = s.counts;
  deep = s.deep;
  large = s.large;
  unbounded = s.unbounded;
  kind = refl;
  first = ap (λ z. z - 1) s.counts;
  second = refl;
  steps = refl;
  written = s.written;
  some = s.some;
  held = omega (arith, s.held);
  short = omega (arith, s.short);
  ahead = omega (arith, s.ahead);
  within = s.within;
}

-- `fU`, steps and `g`: what holds with and without steps
module _ {t : List ℕ} {a k m : ℕ} {o o₁ o₂ : List Record} {l r : Reading} {u : List ℕ} (s : StateRead t a k o o₁ l) (j : Read (Just 85) u t l.end m) where
  -- the records of both parts
  until_total : {e : ℕ} (s' : StateRead t e l.count o₁ o₂ r) → r.count ≡ k + (size s.formula + size s'.formula)
  until_total s' = omega (arith, s.counts, s'.counts)

  -- the until itself
  pub read_until : (limit : Option Number) (e : ℕ) → StepsRead t m (record { limit = limit; end = e }) → StateRead t e l.count o₁ o₂ r → PathRead t a k o o₂ (until_path l limit r)
  read_until None e d s' =
      let f = s.formula in
      let g = s'.formula in
      let p : m ≡ l.end + 1 = (byte j).place in
      let here : e ≡ a + length (print f) + 1 = omega (arith, p, s.stands.place, d.read.stands.place) in
      record {
        path = until f g;
        spelled = (s.spelled, s'.spelled);
        stands = stands_then s.stands (stands_then (byte j) (stands_then d.read.stands s'.stands));
        counts = until_total s';
        deep = rw (s.deep, s'.deep) refl;
        large = rw (s.large, s'.large, here) refl;
        unbounded = rw (s.unbounded, s'.unbounded, here) refl;
        kind = refl;
        first = ap (λ z. z - 1) s.counts;
        second = omega (arith, until_total s');
        steps = refl;
        written = pair s s';
        some = omega (arith, s.some, s'.some);
        held = omega (arith, s.held, s'.held, p, d.ahead);
        short = omega (arith, s.short, s'.short, s.ahead, s'.ahead, p, d.ahead);
        ahead = omega (arith, s.ahead, s'.ahead, p, d.ahead);
        within = s'.within;
      }
  read_until (Some steps) e d s' =
      let f = s.formula in
      let g = s'.formula in
      let p : m ≡ l.end + 1 = (byte j).place in
      let n = steps.value in
      let number : steps.place ≡ a + length (print f) + 1 + length (sign at_most) = omega (arith, d.place, p, s.stands.place) in
      let here : e ≡ a + length (print f) + 1 + length (print_bound at_most n) = omega (arith, p, s.stands.place, d.read.stands.place) in
      record {
        path = until_within n f g;
        spelled = (d.few, s.spelled, s'.spelled);
        stands = stands_then s.stands (stands_then (byte j) (stands_then d.read.stands s'.stands));
        counts = until_total s';
        deep = rw (s.deep, s'.deep) refl;
        large = rw (s.large, number, s'.large, here) refl;
        unbounded = rw (s.unbounded, s'.unbounded, here) refl;
        kind = refl;
        first = ap (λ z. z - 1) s.counts;
        second = omega (arith, until_total s');
        steps = refl;
        written = pair s s';
        some = omega (arith, s.some, s'.some);
        held = omega (arith, s.held, s'.held, p, d.ahead);
        short = omega (arith, s.short, s'.short, s.ahead, s'.ahead, p, d.ahead);
        ahead = omega (arith, s.ahead, s'.ahead, p, d.ahead);
        within = s'.within;
      }

-- what was read of a formula is read as a word
pub state_word : {t : List ℕ} {a k : ℕ} {o o₁ : List Record} {r : Reading} (s : StateRead t a k o o₁ r) → Read StateWord (print s.formula) t a r.end
state_word s = state_read s.formula s.spelled s.stands

-- so is what was read of a path formula
pub path_word : {t : List ℕ} {a k : ℕ} {o o₁ : List Record} {r : Path} (s : PathRead t a k o o₁ r) → Read PathWord (print_path s.path) t a r.parts.end
path_word s = path_read s.path s.spelled s.stands

-- what is known may be told by an equal
pub known : {t : List ℕ} {a k : ℕ} {o o₁ : List Record} {r r' : Reading} → r' ≡ r → StateRead t a k o o₁ r → StateRead t a k o o₁ r'
known {t} {a} {k} {o} {o₁} e s = subst (λ (z : Reading). StateRead t a k o o₁ z) (sym e) s

-- the same of a path formula
pub path_known : {t : List ℕ} {a k : ℕ} {o o₁ : List Record} {r r' : Path} → r' ≡ r → PathRead t a k o o₁ r → PathRead t a k o o₁ r'
path_known {t} {a} {k} {o} {o₁} e s = subst (λ (z : Path). PathRead t a k o o₁ z) (sym e) s

-- what reading a formula without parts answers is what reading a formula does, where it begins with none of `!`, `(` and `P`
pub atom_reads : (t : List ℕ) (a k : ℕ) (o o₁ : List Record) (r : Result Reading ℕ) → (a < length t → get_or t a 0 ≡ 33 → ⊥) → (a < length t → get_or t a 0 ≡ 40 → ⊥) → (a < length t → get_or t a 0 ≡ 80 → ⊥) → AtomReads t a k o o₁ r → StateReads t a k o o₁ r
atom_reads t a k o o₁ (Ok r) n₁ n₂ n₃ s = s
atom_reads t a k o o₁ (Err p) n₁ n₂ n₃ s = atom_refused t a n₁ n₂ n₃ s
