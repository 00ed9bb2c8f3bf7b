-- Formulas as languages: what refuses a part of a formula refuses the whole.
use Rattle.std.proofs.Common.{◌≡◌, ℕ, ◌+◌, ◌<◌, ◌≤◌, List, [], ◌∷◌, ◌++◌, length, get_or, Some, None, sym, refl, ap, ◌∙◌, subst, append-nil, arith, lit<, length-append}
use Rattle.theory.specs.Formulas.{at_most, Formula, PathFormula, truth, label, negation, conjunction, probability, next, until_within, until}
use Rattle.grammar.specs.Words.{Language, Stands, Read, Refused}
use Rattle.grammar.specs.Spelling.{print, print_path, print_bound, FewDigits, Spelled, SpelledPath}
use Rattle.grammar.specs.Languages.{Just, BoundWord, StepsWord, print_steps, Atomic, AtomWord, TrueWord, StateWord, PathWord}
use Rattle.grammar.proofs.Chains.{Then, Apart, heads, free_apart, free_read, free_just, just_read, then_refused, first_refused, widen_refused, none_begins}
use Rattle.grammar.proofs.Parts.{NotDigit, bound_apart, steps_apart}
use Rattle.grammar.proofs.Readings.{until_of, print_until, spelled_until, first_byte, no_next, is_truth, is_negation, is_conjunction, is_probability, free_state, free_path}

-- `!f`
abbrev NegationWord : Language
NegationWord = Then (Just 33) StateWord

-- `(f&g)`
abbrev ConjunctionWord : Language
ConjunctionWord = Then (Just 40) (Then StateWord (Then (Just 38) (Then StateWord (Just 41))))

-- `P`, a comparison with its bound, and `[path]`
abbrev ProbabilityWord : Language
ProbabilityWord = Then (Just 80) (Then BoundWord (Then (Just 91) (Then PathWord (Just 93))))

-- `Xf`
abbrev NextWord : Language
NextWord = Then (Just 88) StateWord

-- `fU`, the steps if there are any, and `g`
abbrev UntilWord : Language
UntilWord = Then StateWord (Then (Just 85) (Then StepsWord StateWord))

-- a negation is a formula
negation_in : (w : List ℕ) → NegationWord w → StateWord w
negation_in w (u, v, p, (f, l, q), e) = (negation f, l, cc)

-- a conjunction
conjunction_in : (w : List ℕ) → ConjunctionWord w → StateWord w
conjunction_in w (u, v, p, (u₁, v₁, (f, lf, ef), (u₂, v₂, p₂, (u₃, v₃, (g, lg, eg), p₃, e₃), e₂), e₁), e) = (conjunction f g, (lf, lg), cc)

-- a probability
probability_in : (w : List ℕ) → ProbabilityWord w → StateWord w
probability_in w (u, v, p, (u₁, v₁, ((c, b), h, q), (u₂, v₂, p₂, (u₃, v₃, (r, l, s), p₃, e₃), e₂), e₁), e) = (probability c b r, (h, l), cc)

-- a next is a path formula
next_in : (w : List ℕ) → NextWord w → PathWord w
next_in w (u, v, p, (f, l, q), e) = (next f, l, cc)

-- an until, with or without steps, too
until_in : (w : List ℕ) → UntilWord w → PathWord w
until_in w (u, v, (f, lf, ef), (u₁, v₁, p₁, (u₂, v₂, (s, h, es), (g, lg, eg), e₂), e₁), e) =
    (until_of s f g, spelled_until s f g h lf lg, (let q = print_until s f g in cc))

-- a formula with no parts can be spelled
atomic_in : (f : Formula) → Atomic f → Spelled f
atomic_in truth h = tt
atomic_in (label i) h = h
atomic_in (negation f) h = elim h [ ]
atomic_in (conjunction f g) h = elim h [ ]
atomic_in (probability c b p) h = elim h [ ]

-- so its text is that of a formula
atom_in : (w : List ℕ) → AtomWord w → StateWord w
atom_in w (f, h, e) = (f, atomic_in f h, e)

-- `true` is one
true_in : (w : List ℕ) → TrueWord w → AtomWord w
true_in w e = (truth, tt, e)

-- a formula's text as a front with nothing behind it
alone : (f : Formula) (h c : ℕ) (r : List ℕ) → h ≡ c → h ∷ r ≡ print f → print f ++ [] ≡ c ∷ r
alone f h c r p e = append-nil (print f) ∙ sym e ∙ ap (λ z. z ∷ r) p

-- the first byte picks one of them: `!` the negations
negation_picked : (h : ℕ) (r : List ℕ) → h ≡ 33 → StateWord (h ∷ r) → NegationWord (h ∷ r)
negation_picked h r p (f, l, e) =
    let (g, is) = is_negation f [] r (alone f h 33 r p e) in
    (33 ∷ [], print g, refl, (g, subst Spelled is l, refl), e ∙ ap print is)

-- `(` picks the conjunctions
conjunction_picked : (h : ℕ) (r : List ℕ) → h ≡ 40 → StateWord (h ∷ r) → ConjunctionWord (h ∷ r)
conjunction_picked h r p (f, l, e) =
    let (g, g', is) = is_conjunction f [] r (alone f h 40 r p e) in
    let l' : Spelled g × Spelled g' = subst Spelled is l in
    (40 ∷ [], _, refl, (print g, _, (g, l'.0, refl), (38 ∷ [], _, refl, (print g', 41 ∷ [], (g', l'.1, refl), refl, refl), refl), refl), e ∙ ap print is)

-- `P` picks the probabilities
probability_picked : (h : ℕ) (r : List ℕ) → h ≡ 80 → StateWord (h ∷ r) → ProbabilityWord (h ∷ r)
probability_picked h r p (f, l, e) =
    let (c, b, q, is) = is_probability f [] r (alone f h 80 r p e) in
    let l' : FewDigits b × SpelledPath q = subst Spelled is l in
    (80 ∷ [], _, refl, (print_bound c b, _, ((c, b), l'.0, refl), (91 ∷ [], _, refl, (print_path q, 93 ∷ [], (q, l'.1, refl), refl, refl), refl), refl), e ∙ ap print is)

-- `t` picks `true`
true_picked : (h : ℕ) (r : List ℕ) → h ≡ 116 → AtomWord (h ∷ r) → TrueWord (h ∷ r)
true_picked h r p (f, l, e) = e ∙ ap print (is_truth f [] r (atomic_in f l) (alone f h 116 r p e))

-- `X` picks the nexts
next_picked : (h : ℕ) (r : List ℕ) → h ≡ 88 → PathWord (h ∷ r) → NextWord (h ∷ r)
next_picked h r p (next f, l, e) = (88 ∷ [], print f, refl, (f, l, refl), e)
next_picked h r p (until f g, l, e) = absurd (no_next f _ _ (sym e ∙ ap (λ z. z ∷ r) p))
next_picked h r p (until_within k f g, l, e) = absurd (no_next f _ _ (sym e ∙ ap (λ z. z ∷ r) p))

-- any other byte picks the untils
until_picked : (h : ℕ) (r : List ℕ) → (h ≡ 88 → ⊥) → PathWord (h ∷ r) → UntilWord (h ∷ r)
until_picked h r p (next f, l, e) = absurd (p (heads e))
until_picked h r p (until f g, l, e) = (print f, _, (f, l.0, refl), (85 ∷ [], _, refl, ([], print g, (None, tt, refl), (g, l.1, refl), refl), refl), e)
until_picked h r p (until_within k f g, l, e) = (print f, _, (f, l.1, refl), (85 ∷ [], _, refl, (print_steps (Some k), print g, (Some k, l.0, refl), (g, l.2, refl), refl), refl), e)

-- what begins with none of `!`, `(` and `P` has no parts
atom_picked : (h : ℕ) (r : List ℕ) → (h ≡ 33 → ⊥) → (h ≡ 40 → ⊥) → (h ≡ 80 → ⊥) → StateWord (h ∷ r) → AtomWord (h ∷ r)
atom_picked h r n₁ n₂ n₃ (truth, l, e) = (truth, tt, e)
atom_picked h r n₁ n₂ n₃ (label i, l, e) = (label i, l, e)
atom_picked h r n₁ n₂ n₃ (negation f, l, e) = absurd (n₁ (heads e))
atom_picked h r n₁ n₂ n₃ (conjunction f g, l, e) = absurd (n₂ (heads e))
atom_picked h r n₁ n₂ n₃ (probability c b p, l, e) = absurd (n₃ (heads e))

-- a formula has a byte
pub state_some : StateWord [] → ⊥
state_some (f, l, e) = let (h, r, p, n) = first_byte f in omega (arith, ap length (e ∙ p))

-- so has a path formula
pub path_some : PathWord [] → ⊥
path_some (next f, l, e) = omega (arith, ap length e)
path_some (until f g, l, e) = omega (arith, ap length e, length-append (print f) (85 ∷ print g))
path_some (until_within k f g, l, e) = omega (arith, ap length e, length-append (print f) (85 ∷ (print_bound at_most k ++ print g)))

-- and an atom
pub atom_some : AtomWord [] → ⊥
atom_some (f, l, e) = state_some (f, atomic_in f l, e)

-- a letter, which stands for any state formula in a longer word
some_state : StateWord (97 ∷ [])
some_state = (label 0, lit< tt, refl)

-- a path, which stands for any
some_path : PathWord (88 ∷ 97 ∷ [])
some_path = (next (label 0), lit< tt, refl)

-- the rest of a conjunction, after its left part
rest_and : Then (Just 38) (Then StateWord (Just 41)) (38 ∷ 97 ∷ 41 ∷ [])
rest_and = (38 ∷ [], _, refl, (97 ∷ [], 41 ∷ [], some_state, refl, refl), refl)

-- a path and `]`
rest_path : Then PathWord (Just 93) (88 ∷ 97 ∷ 93 ∷ [])
rest_path = (88 ∷ 97 ∷ [], 93 ∷ [], some_path, refl, refl)

-- `U` and a formula
rest_until : Then (Just 85) (Then StepsWord StateWord) (85 ∷ 97 ∷ [])
rest_until = (85 ∷ [], 97 ∷ [], refl, ([], 97 ∷ [], (None, tt, refl), some_state, refl), refl)

-- no formula begins with a digit
state_digit : (c : ℕ) (y : List ℕ) → StateWord (c ∷ y) → NotDigit c
state_digit c y (f, l, e) = let (h, r, p, n) = first_byte f in λ a b. n.digit (omega (arith, a, heads (e ∙ p))) (omega (arith, b, heads (e ∙ p)))

-- nor with `<`
state_less : (c : ℕ) (y : List ℕ) → StateWord (c ∷ y) → c ≡ 60 → ⊥
state_less c y (f, l, e) = let (h, r, p, n) = first_byte f in λ q. n.less (omega (arith, q, heads (e ∙ p)))

-- a formula may follow steps
steps_then_state : Apart StepsWord StateWord
steps_then_state = steps_apart state_digit state_less

-- `[` may follow a bound
bound_then_open : {M : Language} → Apart BoundWord (Then (Just 91) M)
bound_then_open {M} = bound_apart {M = Then (Just 91) M} (λ c y w a b. omega (arith, b, opening c y w))
  where
    opening : (c : ℕ) (y : List ℕ) → Then (Just 91) M (c ∷ y) → c ≡ 91
    opening c y (u, v, p, m, e) = heads (e ∙ ap (λ z. z ++ v) p)

-- a formula that stands in a text is read there
pub state_read : {t : List ℕ} {a e : ℕ} (f : Formula) → Spelled f → Stands (print f) t a e → Read StateWord (print f) t a e
state_read f l s = free_read free_state (f, l, refl) s

-- so is a path formula
pub path_read : {t : List ℕ} {a e : ℕ} (p : PathFormula) → SpelledPath p → Stands (print_path p) t a e → Read PathWord (print_path p) t a e
path_read p l s = free_read free_path (p, l, refl) s

-- what refuses a part refuses the whole, by the byte that the whole begins with
module _ (t : List ℕ) (a : ℕ) (l : a < length t) where
  module _ (is : get_or t a 0 ≡ 33) where
    -- `!f`
    pub negation_refused : {p : ℕ} → Refused StateWord t (a + 1) p → Refused StateWord t a p
    negation_refused {p} s =
        widen_refused NegationWord StateWord t a p negation_in (λ _. state_some) (λ r _. negation_picked _ r is)
        (then_refused (free_apart (free_just 33)) (just_read 33 t a l is) s)

  module _ (is : get_or t a 0 ≡ 40) where
    -- `(f&g)`, after the `(`
    whole_refused : {p : ℕ} → Refused (Then StateWord (Then (Just 38) (Then StateWord (Just 41)))) t (a + 1) p → Refused StateWord t a p
    whole_refused {p} s =
        widen_refused ConjunctionWord StateWord t a p conjunction_in (λ _. state_some) (λ r _. conjunction_picked _ r is)
        (then_refused (free_apart (free_just 40)) (just_read 40 t a l is) s)

    -- where its left part is refused, so is it
    pub left_refused : {p : ℕ} → Refused StateWord t (a + 1) p → Refused StateWord t a p
    left_refused s = whole_refused (first_refused (free_apart free_state) _ rest_and s)

    module _ {u : List ℕ} {m : ℕ} (left : Read StateWord u t (a + 1) m) where
      -- where the `&` is refused
      pub and_refused : {p : ℕ} → Refused (Just 38) t m p → Refused StateWord t a p
      and_refused s = whole_refused (then_refused (free_apart free_state) left (first_refused (free_apart (free_just 38)) _ (97 ∷ [], 41 ∷ [], some_state, refl, refl) s))

      module _ {v : List ℕ} {n : ℕ} (mid : Read (Just 38) v t m n) where
        -- where its right part is refused
        pub right_refused : {p : ℕ} → Refused StateWord t n p → Refused StateWord t a p
        right_refused s = whole_refused (then_refused (free_apart free_state) left (then_refused (free_apart (free_just 38)) mid (first_refused (free_apart free_state) (41 ∷ []) refl s)))

        -- where the `)` is refused
        pub close_refused : {w : List ℕ} {e p : ℕ} → Read StateWord w t n e → Refused (Just 41) t e p → Refused StateWord t a p
        close_refused right s = whole_refused (then_refused (free_apart free_state) left (then_refused (free_apart (free_just 38)) mid (then_refused (free_apart free_state) right s)))

  module _ (is : get_or t a 0 ≡ 80) where
    -- `P`, a bound and `[path]`, after the `P`
    rest_refused : {p : ℕ} → Refused (Then BoundWord (Then (Just 91) (Then PathWord (Just 93)))) t (a + 1) p → Refused StateWord t a p
    rest_refused {p} s =
        widen_refused ProbabilityWord StateWord t a p probability_in (λ _. state_some) (λ r _. probability_picked _ r is)
        (then_refused (free_apart (free_just 80)) (just_read 80 t a l is) s)

    -- where its bound is refused, so is it
    pub bound_refused : {p : ℕ} → Refused BoundWord t (a + 1) p → Refused StateWord t a p
    bound_refused s = rest_refused (first_refused bound_then_open _ (91 ∷ [], _, refl, rest_path, refl) s)

    module _ {u : List ℕ} {m : ℕ} (bound : Read BoundWord u t (a + 1) m) where
      -- where the `[` is refused
      pub opening_refused : {p : ℕ} → Refused (Just 91) t m p → Refused StateWord t a p
      opening_refused s = rest_refused (then_refused bound_then_open bound (first_refused (free_apart (free_just 91)) _ rest_path s))

      module _ {v : List ℕ} {n : ℕ} (opening : Read (Just 91) v t m n) where
        -- where its path is refused
        pub path_refused : {p : ℕ} → Refused PathWord t n p → Refused StateWord t a p
        path_refused s = rest_refused (then_refused bound_then_open bound (then_refused (free_apart (free_just 91)) opening (first_refused (free_apart free_path) (93 ∷ []) refl s)))

        -- where the `]` is refused
        pub closing_refused : {w : List ℕ} {e p : ℕ} → Read PathWord w t n e → Refused (Just 93) t e p → Refused StateWord t a p
        closing_refused path s = rest_refused (then_refused bound_then_open bound (then_refused (free_apart (free_just 91)) opening (then_refused (free_apart free_path) path s)))

  -- `Xf`
  pub next_refused : {p : ℕ} → get_or t a 0 ≡ 88 → Refused StateWord t (a + 1) p → Refused PathWord t a p
  next_refused {p} is s =
      widen_refused NextWord PathWord t a p next_in (λ _. path_some) (λ r _. next_picked _ r is)
      (then_refused (free_apart (free_just 88)) (just_read 88 t a l is) s)

  -- `true`
  pub true_refused : {p : ℕ} → get_or t a 0 ≡ 116 → Refused TrueWord t a p → Refused AtomWord t a p
  true_refused {p} is s = widen_refused TrueWord AtomWord t a p true_in (λ _. atom_some) (λ r _. true_picked _ r is) s

module _ (t : List ℕ) (a : ℕ) where
  -- what is no compound is refused as an atom is
  pub atom_refused : {p : ℕ} → (a < length t → get_or t a 0 ≡ 33 → ⊥) → (a < length t → get_or t a 0 ≡ 40 → ⊥) → (a < length t → get_or t a 0 ≡ 80 → ⊥) → Refused AtomWord t a p → Refused StateWord t a p
  atom_refused {p} n₁ n₂ n₃ s = widen_refused AtomWord StateWord t a p atom_in (λ _. state_some) (λ r l. atom_picked _ r (n₁ l) (n₂ l) (n₃ l)) s

  -- neither `t` nor a letter
  pub none_refused : a ≤ length t → (a < length t → get_or t a 0 ≡ 116 → ⊥) → (a < length t → 97 ≤ get_or t a 0 → get_or t a 0 ≤ 112 → ⊥) → Refused AtomWord t a a
  none_refused l n₁ n₂ = none_begins {L = AtomWord} t a l atom_some 97 [] (label 0, lit< tt, refl) (λ k h w. never _ k (n₁ h) (n₂ h) w)
    where
      never : (h : ℕ) (r : List ℕ) → (h ≡ 116 → ⊥) → (97 ≤ h → h ≤ 112 → ⊥) → AtomWord (h ∷ r) → ⊥
      never h r n₁ n₂ (truth, l, e) = n₁ (heads e)
      never h r n₁ n₂ (label i, l, e) = n₂ (omega (arith, heads e)) (omega (arith, heads e, l))
      never h r n₁ n₂ (negation f, l, e) = elim l [ ]
      never h r n₁ n₂ (conjunction f g, l, e) = elim l [ ]
      never h r n₁ n₂ (probability c b p, l, e) = elim l [ ]

  -- `fU`, steps and `g`, where no `X` stands
  module _ (other : a < length t → get_or t a 0 ≡ 88 → ⊥) where
    -- where all of it is refused, so is the path formula
    all_refused : {p : ℕ} → Refused UntilWord t a p → Refused PathWord t a p
    all_refused {p} s = widen_refused UntilWord PathWord t a p until_in (λ _. path_some) (λ r l. until_picked _ r (other l)) s

    -- where its left part is refused, so is it
    pub first_part_refused : {p : ℕ} → Refused StateWord t a p → Refused PathWord t a p
    first_part_refused s = all_refused (first_refused (free_apart free_state) _ rest_until s)

    module _ {u : List ℕ} {m : ℕ} (left : Read StateWord u t a m) where
      -- where the `U` is refused
      pub until_refused : {p : ℕ} → Refused (Just 85) t m p → Refused PathWord t a p
      until_refused s = all_refused (then_refused (free_apart free_state) left (first_refused (free_apart (free_just 85)) (97 ∷ []) ([], 97 ∷ [], (None, tt, refl), some_state, refl) s))

      module _ {v : List ℕ} {n : ℕ} (mid : Read (Just 85) v t m n) where
        -- where its steps are refused
        pub steps_refused : {p : ℕ} → Refused StepsWord t n p → Refused PathWord t a p
        steps_refused s = all_refused (then_refused (free_apart free_state) left (then_refused (free_apart (free_just 85)) mid (first_refused steps_then_state _ some_state s)))

        -- where its right part is refused
        pub second_part_refused : {w : List ℕ} {e p : ℕ} → Read StepsWord w t n e → Refused StateWord t e p → Refused PathWord t a p
        second_part_refused steps s = all_refused (then_refused (free_apart free_state) left (then_refused (free_apart (free_just 85)) mid (then_refused steps_then_state steps s)))
