-- One language after another, and the part of a language that the first byte picks.
use Rattle.std.proofs.Common.{◌≡◌, ℕ, ◌+◌, ◌<◌, ◌≤◌, ◌⊎◌, List, [], ◌∷◌, ◌++◌, length, get_or, drop, sym, refl, ap, ◌∙◌, subst, inl, inr, ⊎_elim, append_assoc, append-nil, arith, length-append, length-drop}
use Rattle.std.proofs.lemmas.List.{drop_more, append_cancel_left}
use Rattle.grammar.specs.Words.{Language, Shut, Stands, Read, Refused}
use Rattle.grammar.specs.Languages.{Just}

-- a word of L, then one of M
abbrev pub Then : Language → Language → Language
Then L M w = (u : List ℕ) × (v : List ℕ) × L u × M v × (w ≡ u ++ v)

-- no word begins another
abbrev pub Free : Language → Type 0
Free L = (u v x y : List ℕ) → L u → L v → u ++ x ≡ v ++ y → u ≡ v

-- no word of M begins with a byte that carries a word of L on to another
pub record Apart (L M : Language) : Type 0 where
  pub never : (u : List ℕ) (c : ℕ) (j y : List ℕ) → L u → L (u ++ c ∷ j) → M (c ∷ y) → ⊥

-- equal lists have equal first bytes
pub heads : {a b : ℕ} {x y : List ℕ} → a ∷ x ≡ b ∷ y → a ≡ b
heads e = cc

-- and equal rests
pub tails : {a b : ℕ} {x y : List ℕ} → a ∷ x ≡ b ∷ y → x ≡ y
tails e = cc

-- two ways to cut one list: the first front is the longer, or the second
pub cuts : (x y u v : List ℕ) → x ++ y ≡ u ++ v → ((k : List ℕ) × (x ≡ u ++ k)) ⊎ ((c : ℕ) × (k : List ℕ) × (u ≡ x ++ c ∷ k) × (y ≡ c ∷ (k ++ v)))
cuts [] y [] v e = inl ([], refl)
cuts [] y (c ∷ u) v e = inr (c, u, refl, e)
cuts (a ∷ x) y [] v e = inl (a ∷ x, refl)
cuts (a ∷ x) y (c ∷ u) v e =
    ⊎_elim
    (λ h. inl (h.0, let p = h.1 in let q = heads e in cc))
    (λ h. inr (h.0, h.1, (let p = h.2 in let q = heads e in cc), h.3))
    (cuts x y u v (tails e))

-- no word of a free language is carried on to another
pub free_alone : {L : Language} → Free L → (u : List ℕ) (c : ℕ) (j : List ℕ) → L u → L (u ++ c ∷ j) → ⊥
free_alone free u c j lu l =
    let same = free u (u ++ c ∷ j) (c ∷ j) [] lu l (sym (append-nil (u ++ c ∷ j))) in
    omega (arith, ap length same, length-append u (c ∷ j))

-- so any language may follow it
pub free_apart : {L M : Language} → Free L → Apart L M
free_apart free = record { never = λ u c j y lu l m. free_alone free u c j lu l }

-- a word of a free language that stands in the text is read there
pub free_read : {L : Language} {w t : List ℕ} {a e : ℕ} → Free L → L w → Stands w t a e → Read L w t a e
free_read {L} {w} {t} {a} {e} free l s = record { lawful = l; stands = s; ends = go (drop e t) }
  where
    go : (rest : List ℕ) → Shut L w rest
    go [] = tt
    go (d ∷ rest) = λ r l'. free_alone free w d r l l'

-- one byte is a free language
pub free_just : (c : ℕ) → Free (Just c)
free_just c u v x y p q e = cc

-- two words that stand one after another stand together
pub stands_then : {u v t : List ℕ} {a m e : ℕ} → Stands u t a m → Stands v t m e → Stands (u ++ v) t a e
stands_then {u} {v} r s = record {
  splits = r.splits ∙ ap (λ z. u ++ z) s.splits ∙ sym (append_assoc u v _);
  place = omega (arith, r.place, s.place, length-append u v);
  within = s.within;
}

-- whether u is carried on depends on the next byte alone
shut_along : (L : Language) (u front : List ℕ) (d : ℕ) (rest k : List ℕ) → Shut L u (front ++ d ∷ rest) → Shut L u (front ++ d ∷ k)
shut_along L u [] d rest k h = h
shut_along L u (b ∷ front) d rest k h = h

-- the same where there is no byte after the front
shut_front : (L : Language) (u front rest : List ℕ) → Shut L u (front ++ rest) → Shut L u front
shut_front L u [] rest h = tt
shut_front L u (b ∷ front) rest h = h

module _ {L M : Language} (apart : Apart L M) where
  -- after a word of L that is carried on no further, only a word of M makes a word of both
  no_then : (u y : List ℕ) → L u → Shut L u y → (M y → ⊥) → Then L M (u ++ y) → ⊥
  no_then u y lu shut none (u', v', lu', mv', e) = ⊎_elim (λ h. longer h.0 h.1) (λ h. shorter h.0 h.1 h.2 h.3) (cuts u y u' v' e)
    where
      longer : (k : List ℕ) → u ≡ u' ++ k → ⊥
      longer [] p = none (subst M (sym (append_cancel_left u' y v' (ap (λ z. z ++ y) (sym (p ∙ append-nil u')) ∙ e))) mv')
      longer (c ∷ k) p =
          let rest : (c ∷ k) ++ y ≡ v' = append_cancel_left u' ((c ∷ k) ++ y) v' (sym (append_assoc u' (c ∷ k) y) ∙ ap (λ z. z ++ y) (sym p) ∙ e) in
          apart.never u' c k (k ++ y) lu' (subst L p lu) (subst M (sym rest) mv')

      shorter : (c : ℕ) (k : List ℕ) → u' ≡ u ++ c ∷ k → y ≡ c ∷ (k ++ v') → ⊥
      shorter c k p q =
          let never : Shut L u (c ∷ (k ++ v')) = subst (Shut L u) q shut in
          never k (subst L p lu')

  -- a beginning of words of L that is none begins no word of both by another byte
  no_first : (front : List ℕ) (c : ℕ) (j y : List ℕ) → L (front ++ c ∷ j) → (L front → ⊥) → Shut L front y → Then L M (front ++ y) → ⊥
  no_first front c j y begun none shut (u', v', lu', mv', e) = ⊎_elim (λ h. longer h.0 h.1) (λ h. shorter h.0 h.1 h.2 h.3) (cuts front y u' v' e)
    where
      longer : (k : List ℕ) → front ≡ u' ++ k → ⊥
      longer [] p = none (subst L (sym (p ∙ append-nil u')) lu')
      longer (b ∷ k) p =
          let rest : (b ∷ k) ++ y ≡ v' = append_cancel_left u' ((b ∷ k) ++ y) v' (sym (append_assoc u' (b ∷ k) y) ∙ ap (λ z. z ++ y) (sym p) ∙ e) in
          let whole : front ++ c ∷ j ≡ u' ++ (b ∷ (k ++ c ∷ j)) = ap (λ z. z ++ c ∷ j) p ∙ append_assoc u' (b ∷ k) (c ∷ j) in
          apart.never u' b (k ++ c ∷ j) (k ++ y) lu' (subst L whole begun) (subst M (sym rest) mv')

      shorter : (b : ℕ) (k : List ℕ) → u' ≡ front ++ b ∷ k → y ≡ b ∷ (k ++ v') → ⊥
      shorter b k p q =
          let never : Shut L front (b ∷ (k ++ v')) = subst (Shut L front) q shut in
          never k (subst L p lu')

  -- where a word of L and then one of M is read, a word of both is
  pub then_read : {u v t : List ℕ} {a m e : ℕ} → Read L u t a m → Read M v t m e → Read (Then L M) (u ++ v) t a e
  then_read {u} {v} {t} {a} {m} {e} r s = record {
    lawful = (u, v, r.lawful, s.lawful, refl);
    stands = stands_then r.stands s.stands;
    ends = go (drop e t) s.ends (subst (Shut L u) s.stands.splits r.ends);
  }
    where
      go : (rest : List ℕ) → Shut M v rest → Shut L u (v ++ rest) → Shut (Then L M) (u ++ v) rest
      go [] h shut = tt
      go (d ∷ rest) h shut = λ k w.
          no_then u (v ++ d ∷ k) r.lawful (shut_along L u v d rest k shut) (h k) (subst (Then L M) (append_assoc u v (d ∷ k)) w)

  -- where a word of L is read and then M is refused, both are
  pub then_refused : {u t : List ℕ} {a m p : ℕ} → Read L u t a m → Refused M t m p → Refused (Then L M) t a p
  then_refused {u} {t} {a} {m} {p} r s = record {
    front = u ++ s.front;
    opens = let (c, k, w) = s.opens in (c, k, (u, s.front ++ c ∷ k, r.lawful, w, append_assoc u s.front _));
    none = no_then u s.front r.lawful (shut_front L u s.front (drop p t) shut) s.none;
    shuts = go (drop p t) s.shuts shut;
    stands = stands_then r.stands s.stands;
  }
    where
      shut : Shut L u (s.front ++ drop p t)
      shut = subst (Shut L u) s.stands.splits r.ends

      go : (rest : List ℕ) → Shut M s.front rest → Shut L u (s.front ++ rest) → Shut (Then L M) (u ++ s.front) rest
      go [] h shut = tt
      go (d ∷ rest) h shut = λ k w.
          no_then u (s.front ++ d ∷ k) r.lawful (shut_along L u s.front d rest k shut) (h k) (subst (Then L M) (append_assoc u s.front (d ∷ k)) w)

  -- where L is refused, so are both, if there is a word of M at all
  pub first_refused : {t : List ℕ} {a p : ℕ} (z : List ℕ) → M z → Refused L t a p → Refused (Then L M) t a p
  first_refused {t} {a} {p} z mz s = record {
    front = s.front;
    opens = let (c, k, w) = s.opens in (c, k ++ z, (s.front ++ c ∷ k, z, w, mz, sym (append_assoc s.front (c ∷ k) z)));
    none = λ w. no_first s.front s.opens.0 s.opens.1 [] s.opens.2 s.none tt (subst (Then L M) (sym (append-nil s.front)) w);
    shuts = go (drop p t) s.shuts;
    stands = s.stands;
  }
    where
      go : (rest : List ℕ) → Shut L s.front rest → Shut (Then L M) s.front rest
      go [] h = tt
      go (d ∷ rest) h = λ k w. no_first s.front s.opens.0 s.opens.1 (d ∷ k) s.opens.2 s.none h w

-- a third language may follow two, if it may follow the second, which has no empty word
pub then_apart : {L M N : Language} → Apart L M → Apart M N → (M [] → ⊥) → Apart (Then L M) N
then_apart {L} {M} {N} first second some = record { never = λ w c j y l l' n. go c j y l.0 l.1 l'.0 l'.1 l.2 l.3 l'.2 l'.3 (sym (append_assoc l.0 l.1 (c ∷ j)) ∙ ap (λ z. z ++ c ∷ j) (sym l.4) ∙ l'.4) n }
  where
    go : (c : ℕ) (j y u v u' v' : List ℕ) → L u → M v → L u' → M v' → u ++ (v ++ c ∷ j) ≡ u' ++ v' → N (c ∷ y) → ⊥
    go c j y u v u' v' lu mv lu' mv' whole n = ⊎_elim (λ h. longer h.0 h.1) (λ h. shorter v mv h.0 h.1 h.2 h.3) (cuts u (v ++ c ∷ j) u' v' whole)
      where
        longer : (k : List ℕ) → u ≡ u' ++ k → ⊥
        longer [] p = second.never v c j y mv (subst M (sym (append_cancel_left u' (v ++ c ∷ j) v' (ap (λ z. z ++ (v ++ c ∷ j)) (sym (p ∙ append-nil u')) ∙ whole))) mv') n
        longer (b ∷ k) p =
            let rest : (b ∷ k) ++ (v ++ c ∷ j) ≡ v' = append_cancel_left u' ((b ∷ k) ++ (v ++ c ∷ j)) v' (sym (append_assoc u' (b ∷ k) (v ++ c ∷ j)) ∙ ap (λ z. z ++ (v ++ c ∷ j)) (sym p) ∙ whole) in
            first.never u' b k (k ++ (v ++ c ∷ j)) lu' (subst L p lu) (subst M (sym rest) mv')

        shorter : (v : List ℕ) → M v → (b : ℕ) (k : List ℕ) → u' ≡ u ++ b ∷ k → v ++ c ∷ j ≡ b ∷ (k ++ v') → ⊥
        shorter [] m b k p q = some m
        shorter (d ∷ v) m b k p q = first.never u b k v lu (subst L p lu') (subst M (ap (λ z. z ∷ v) (heads q)) m)

-- the first byte from a place on is the byte at the place
pub at_head : (t : List ℕ) (a h : ℕ) (xs : List ℕ) → drop a t ≡ h ∷ xs → (a < length t) × (h ≡ get_or t a 0)
at_head t a h xs e =
    let l : a < length t = omega (arith, ap length e, length-drop a t) in
    (l, sym (heads (sym (drop_more t a 0 l) ∙ e)))

-- where the first byte picks the part B of a language L, what refuses B refuses L, unless no byte is read and L has the empty word
pub widen_refused : (B L : Language) (t : List ℕ) (a p : ℕ) → ((w : List ℕ) → B w → L w) → (p ≡ a → L [] → ⊥)
    → ((r : List ℕ) → a < length t → L (get_or t a 0 ∷ r) → B (get_or t a 0 ∷ r)) → Refused B t a p → Refused L t a p
widen_refused B L t a p into some picks s = record {
  front = s.front;
  opens = let (c, k, w) = s.opens in (c, k, into _ w);
  none = first s.front (drop p t) s.stands.splits s.stands.place s.none;
  shuts = go s.front (drop p t) s.stands.splits s.shuts;
  stands = s.stands;
}
  where
    picked : (h : ℕ) (xs : List ℕ) → drop a t ≡ h ∷ xs → (r : List ℕ) → L (h ∷ r) → B (h ∷ r)
    picked h xs e r w = let z = at_head t a h xs e in subst (λ q. B (q ∷ r)) (sym z.1) (picks r z.0 (subst (λ q. L (q ∷ r)) z.1 w))

    first : (front rest : List ℕ) → drop a t ≡ front ++ rest → p ≡ a + length front → (B front → ⊥) → L front → ⊥
    first [] rest e q h w = some (omega (arith, q)) w
    first (b ∷ front) rest e q h w = h (picked b (front ++ rest) e front w)

    go : (front rest : List ℕ) → drop a t ≡ front ++ rest → Shut B front rest → Shut L front rest
    go front [] e h = tt
    go [] (d ∷ rest) e h = λ k w. h k (picked d rest e k w)
    go (b ∷ front) (d ∷ rest) e h = λ k w. h k (picked b (front ++ d ∷ rest) e (front ++ d ∷ k) w)

-- the byte at a place stands there
pub byte_stands : (c : ℕ) (t : List ℕ) (a : ℕ) → a < length t → get_or t a 0 ≡ c → Stands (c ∷ []) t a (a + 1)
byte_stands c t a l e = record {
  splits = drop_more t a 0 l ∙ ap (λ n. n ∷ drop (a + 1) t) e;
  place = refl;
  within = omega arith;
}

-- and is read as the one word that it is
pub just_read : (c : ℕ) (t : List ℕ) (a : ℕ) → a < length t → get_or t a 0 ≡ c → Read (Just c) (c ∷ []) t a (a + 1)
just_read c t a l e = free_read (free_just c) refl (byte_stands c t a l e)

-- where no word begins with the byte at hand, nothing is read
pub none_begins : {L : Language} (t : List ℕ) (a : ℕ) → a ≤ length t → (L [] → ⊥) → (c : ℕ) (r : List ℕ) → L (c ∷ r) → ((k : List ℕ) → a < length t → L (get_or t a 0 ∷ k) → ⊥) → Refused L t a a
none_begins {L} t a l some c r w never = record {
  front = [];
  opens = (c, r, w);
  none = some;
  shuts = go (drop a t) refl;
  stands = record { splits = refl; place = omega arith; within = l };
}
  where
    go : (rest : List ℕ) → drop a t ≡ rest → Shut L [] rest
    go [] e = tt
    go (d ∷ rest) e = λ k w'. let z = at_head t a d rest e in never k z.0 (subst (λ n. L (n ∷ k)) z.1 w')
