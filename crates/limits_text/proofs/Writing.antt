-- What is written where a text is written piece by piece.
use Rattle.std.proofs.Common.{◌≡◌, ℕ, ◌+◌, ◌-◌, ◌≤◌, List, [], length, take, drop, Option, refl, sym, subst, arith, length-drop, length-take-le}
use Rattle.std.specs.Io.KnownBytes.{Appends, Keeps}
use Rattle.std.proofs.KnownBytes.{Appends-nil, Appends-trans, Appends-kept}
use Rattle.std.proofs.Math.Seq.{take-add}
use Rattle.std.proofs.lemmas.List.{take_all}
use Rattle.limits_text.specs.Lists.{AppendsFront}

-- the first bytes of a text, so many, are written
pub record WrittenPart (o o' : Option (List ℕ)) (text : List ℕ) (at : ℕ) : Type 0 where
  pub within : at ≤ length text
  pub appended : Appends o o' (take at text)

-- none is where nothing is written
pub written_none : (o : Option (List ℕ)) (text : List ℕ) → WrittenPart o o text 0
written_none o text = record { within = omega arith; appended = Appends-nil o }

-- a writer that keeps what it has keeps that
pub written_kept : {o o' o'' : Option (List ℕ)} {text : List ℕ} {at : ℕ} → WrittenPart o o' text at → Keeps o' o'' → WrittenPart o o'' text at
written_kept {o} {o'} {o''} {text} {at} w k = record { within = w.within; appended = Appends-kept o o' o'' (take at text) w.appended k }

-- so many more are
pub written_more : {o o' o'' : Option (List ℕ)} {text : List ℕ} {at : ℕ} (n : ℕ) → WrittenPart o o' text at → n ≤ length (take (length text - at) (drop at text)) → Appends o' o'' (take n (take (length text - at) (drop at text))) → WrittenPart o o'' text (at + n)
written_more {o} {o'} {o''} {text} {at} n w l a =
    let rest : take (length text - at) (drop at text) ≡ drop at text = take_all (length text - at) (drop at text) (omega (arith, length-drop at text)) in
    let some : n ≤ length (drop at text) = subst (λ (z : List ℕ). n ≤ length z) rest l in
    record {
      within = omega (arith, some, w.within, length-drop at text);
      appended = subst (Appends o o'') (sym (take-add at n text)) (Appends-trans o o' o'' (take at text) (take n (drop at text)) w.appended (subst (λ z. Appends o' o'' (take n z)) rest a));
    }

-- where all are, the text is written
pub written_all : {o o' : Option (List ℕ)} {text : List ℕ} {at : ℕ} → WrittenPart o o' text at → at ≡ length text → Appends o o' text
written_all {o} {o'} {text} {at} w e = subst (Appends o o') (take_all at text (omega (arith, e))) w.appended

-- else a beginning of it
pub written_front : {o o' : Option (List ℕ)} {text : List ℕ} {at : ℕ} → WrittenPart o o' text at → AppendsFront o o' text
written_front {o} {o'} {text} {at} w = record {
  front = take at text;
  begins = subst (λ k. take k text ≡ take at text) (sym (length-take-le at text w.within)) refl;
  appended = w.appended;
}
