use Rattle.spf_kernel.proofs.Common.{arith, common_steps, on_ok_weaker, texts}
use Rattle.spf_kernel.proofs.check.before.Before.add.Goals as goal
use Rattle.spf_kernel.proofs.Adding.{before_after}

pub returns-in-Declared-Param-clause-added : goal.returns-in-Declared-Param-clause-added
returns-in-Declared-Param-clause-added c = on_ok_weaker c.insert.result (λ inserted. before_after (texts c.args.tokens.now) c.args.note.now c.args.self.now _ c.add.ensures (grind (arith, common_steps))) c.insert.ensures.inserted

pub returns-in-Declared-Index-clause-added : goal.returns-in-Declared-Index-clause-added
returns-in-Declared-Index-clause-added c = on_ok_weaker c.insert-in-Declared-Index.result (λ inserted. before_after (texts c.args.tokens.now) c.args.note.now c.args.self.now _ c.add.ensures (grind (arith, common_steps))) c.insert-in-Declared-Index.ensures.inserted

pub returns-in-Declared-Data-clause-added : goal.returns-in-Declared-Data-clause-added
returns-in-Declared-Data-clause-added c = on_ok_weaker c.insert-in-Declared-Data.result (λ inserted. before_after (texts c.args.tokens.now) c.args.note.now c.args.self.now _ c.add.ensures (grind (arith, common_steps))) c.insert-in-Declared-Data.ensures.inserted

pub returns-in-Declared-Loop-clause-added : goal.returns-in-Declared-Loop-clause-added
returns-in-Declared-Loop-clause-added c = on_ok_weaker c.insert-in-Declared-Loop.result (λ inserted. before_after (texts c.args.tokens.now) c.args.note.now c.args.self.now _ c.add.ensures (grind (arith, common_steps))) c.insert-in-Declared-Loop.ensures.inserted

pub returns-in_default-clause-added : goal.returns-in_default-clause-added
returns-in_default-clause-added c = before_after (texts c.args.tokens.now) c.args.note.now c.args.self.now _ c.add.ensures (grind (arith, common_steps))
