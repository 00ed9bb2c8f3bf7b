use Rattle.std.proofs.Common.{◌≡◌, ℕ, ◌+◌, ◌<◌, Bool, true, false, cond, List, [], ◌∷◌, ◌++◌, length, get_or, take, sym, ap, ◌∙◌, rules}
use Rattle.text.specs.Fields.{letters_from}
use Rattle.text.proofs.Flags.{letters_more}
use Rattle.tables.specs.declared.page.Page.{Page}
use Rattle.tables.specs.Pages.{Put}
use Rattle.tables.proofs.Pages.{put_none, put_same, put_then}
use Rattle.tables.proofs.page.Page.letters.Goals as goal
use Rattle.tables.proofs.page.Page.letters.Goals.{then-flag, else-flag}

-- after the letter of a flag, if it is set, the letters of one flag more are put
next : (flags : List Bool) (i : ℕ) (flag : Bool) {p q r : Page} → i < length flags → get_or flags i false ≡ flag → Put (letters_from 97 (take i flags)) p q → Put (cond flag ((97 + i) ∷ []) []) q r → Put (letters_from 97 (take (i + 1) flags)) p r
next flags i flag h e before put =
    put_same (ap (λ b. letters_from 97 (take i flags) ++ cond b ((97 + i) ∷ []) []) (sym e) ∙ sym (letters_more 97 flags i h)) (put_then before put)

pub loop-i-preserved : goal.loop-i-preserved
loop-i-preserved c =
    let flags = c.args.labels.now.letters in
    let i = c.loop-i.i in
    let h : i < length flags = search rules in
    elim c.if-flag.branch [
      | then-flag w ↦ rw w.self-is (next flags i true h w.if-flag.true c.loop-i.invariant w.byte.ensures)
      | else-flag w ↦ rw w.self-is (next flags i false h w.if-flag.false c.loop-i.invariant (put_none c.loop-i.self))
    ]
