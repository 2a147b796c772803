use Rattle.std.proofs.Common.{◌∙◌, ap}
use Rattle.indexmap.specs.IndexSet.{insert_key}
use Rattle.std.specs.Str.{bytes_eq}
use Rattle.spf_input.proofs.NameLists.{among_more}
use Rattle.spf_input.proofs.names.add_names.Goals as goal

pub loop-name-preserved : goal.loop-name-preserved
loop-name-preserved c = λ name.
    among_more c.args.set.now c.args.names.now c.loop-name.set c.insert.new.self c.loop-name.name-index c.name-item.result name c.loop-name-test.true c.name-item.is
    (c.in_ok-insert.ensures ∙ ap (insert_key bytes_eq c.loop-name.set) c.bytes.ensures.bytes) (c.loop-name.invariant name)
