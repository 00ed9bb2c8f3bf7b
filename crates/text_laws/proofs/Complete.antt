-- A text that describes a content within the limits is accepted, and describes no other.
use Rattle.std.proofs.Common.{◌≡◌, ℕ, ◌-◌, List, [], length, get_or, None, sym, refl, ap, ◌∙◌}
use Rattle.std.proofs.lemmas.Bool.{le-leb, eq-eqb}
use Rattle.text.specs.Cuts.{lines}
use Rattle.text.specs.Contents.{Content}
use Rattle.text.specs.Texts.{text_of, Describes}
use Rattle.text.specs.Refusals.{lines_refusal, refusal}
use Rattle.text_laws.proofs.Nest.{content_of}
use Rattle.text_laws.proofs.CompleteCuts.{lines_spelled, text_ended}
use Rattle.text_laws.proofs.CompleteTold.{told}
use Rattle.text_laws.proofs.CompleteWalk.{passes}

-- a text that describes a content is accepted
pub accepted : (text : List ℕ) (c : Content) → Describes text c → refusal text ≡ None
accepted text c h =
    let short = le-leb (length (text_of c)) 65536 h.within.short in
    let whole = eq-eqb (get_or (text_of c) (length (text_of c) - 1) 0) 10 (text_ended c) in
    let lawful = ap (lines_refusal [] 1) (lines_spelled c h.within) ∙ passes c h.within in
    ap refusal h.is ∙ rw (short, whole, lawful) refl

-- the lines of the text tell the content that it describes
pub described : (text : List ℕ) (c : Content) → Describes text c → content_of (lines text) ≡ c
described text c h = ap (λ t. content_of (lines t)) h.is ∙ ap content_of (lines_spelled c h.within) ∙ told c h.within

-- a text describes one content at the most
pub unique : (text : List ℕ) (c e : Content) → Describes text c → Describes text e → c ≡ e
unique text c e h k = sym (described text c h) ∙ described text e k
