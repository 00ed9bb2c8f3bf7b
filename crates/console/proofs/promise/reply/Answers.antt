use Rattle.std.proofs.Common.{map, string_bytes}
use Rattle.std.specs.Option.{option_map}
use Rattle.console.proofs.Promising.{reply_promised, error_promised}
use Rattle.console.proofs.promise.reply.Goals as goal

-- what is printed keeps the promise
pub returns-clause-promise : goal.returns-clause-promise
returns-clause-promise g c =
    reply_promised (map string_bytes c.args.args.now)
    (option_map (λ x. x.now) c.args.file) (option_map (λ x. x.now) c.args.second)
    (g.W.Write.contents c.args.out.now) (g.W.Write.contents c.reply_to.new.out)
    (g.P.Write.contents c.args.progress.now) (g.P.Write.contents c.reply_to.new.progress)
    c.reply_to.result c.reply_to.ensures.whole

-- also what was begun
pub returns-clause-promise_begun : goal.returns-clause-promise_begun
returns-clause-promise_begun g c =
    error_promised (map string_bytes c.args.args.now)
    (option_map (λ x. x.now) c.args.file) (option_map (λ x. x.now) c.args.second)
    (g.W.Write.contents c.args.out.now) (g.W.Write.contents c.reply_to.new.out)
    (g.P.Write.contents c.args.progress.now) (g.P.Write.contents c.reply_to.new.progress)
    c.reply_to.result c.reply_to.ensures.begun
