-- A runner may go to another thread, and others may read it. One search through all of a kernel's parts runs out of steps, so each part has its own.
use Rattle.std.proofs.Crossing.{crosses}
use denote.Param.Send.{IsSend, IsSync, sendable}
use denote.RattleType.{RattleType}
use denote.Ref.{NamedLft}
use Rattle.sqlite_items.specs.contracts.items.Items as items
use Rattle.spf_term.specs.contracts.env.Env as env
use Rattle.spf_term.specs.contracts.term.Term as term
use Rattle.spf_term.proofs.term.Atom.TheLaws.TheKnot.{crosses as term_crosses}
use Rattle.spf_touch.specs.contracts.touches.Touches as touches
use Rattle.spf_space.specs.contracts.shape.Shape as shape
use Rattle.spf_kernel.specs.contracts.kernel.Kernel as kernel
use Rattle.spf_kernel.specs.contracts.tree.Assign as assign
use Rattle.spf_kernel.specs.contracts.tree.Cond as cond
use Rattle.spf_kernel.specs.contracts.tree.Decl as decl
use Rattle.spf_kernel.specs.contracts.tree.Guard as guard
use Rattle.spf_kernel.specs.contracts.tree.Item as item
use Rattle.spf_kernel.specs.contracts.tree.Loop as loop
use Rattle.spf_kernel.specs.contracts.tree.Part as part
use Rattle.spf_kernel.specs.contracts.tree.Tree as tree
use Rattle.spf_kernel.specs.contracts.tree.Value as value
use Rattle.spf_kernel.proofs.tree.Factor.TheLaws.TheKnot.{crosses as value_crosses}
use Rattle.spf_exec.specs.contracts.program.Body as body
use Rattle.spf_exec.specs.contracts.program.Moved as moved
use Rattle.spf_exec.specs.contracts.program.Program as program
use Rattle.spf_exec.specs.contracts.runner.Runner as runner

items_send : (R : RattleType) → IsSend R → IsSend (items.the_row R)
items_send R s = search (sendable, crosses) depth 20

items_sync : (R : RattleType) → IsSync R → IsSync (items.the_row R)
items_sync R s = search (sendable, crosses) depth 20

term_send : IsSend (term.the_field).row
term_send = search (sendable, items_send, term_crosses) depth 20

term_sync : IsSync (term.the_field).row
term_sync = search (sendable, items_sync, term_crosses) depth 20

value_send : IsSend (value.the_field).row
value_send = let t = term_send in search (sendable, items_send, value_crosses) depth 20

value_sync : IsSync (value.the_field).row
value_sync = let t = term_sync in search (sendable, items_sync, value_crosses) depth 20

assign_send : IsSend (assign.the_field).row
assign_send = let t = term_send in let v = value_send in search sendable depth 20

assign_sync : IsSync (assign.the_field).row
assign_sync = let t = term_sync in let v = value_sync in search sendable depth 20

cond_send : IsSend (cond.the_field).row
cond_send = let t = term_send in search sendable depth 20

cond_sync : IsSync (cond.the_field).row
cond_sync = let t = term_sync in search sendable depth 20

guard_send : IsSend (guard.the_field).row
guard_send = let a = assign_send in let c = cond_send in search (sendable, items_send) depth 20

guard_sync : IsSync (guard.the_field).row
guard_sync = let a = assign_sync in let c = cond_sync in search (sendable, items_sync) depth 20

part_send : IsSend (part.the_field).row
part_send = let a = assign_send in let g = guard_send in search sendable depth 20

part_sync : IsSync (part.the_field).row
part_sync = let a = assign_sync in let g = guard_sync in search sendable depth 20

item_send : IsSend (item.the_field).row
item_send = let t = term_send in let a = assign_send in let g = guard_send in let p = part_send in search (sendable, items_send, crosses) depth 20

item_sync : IsSync (item.the_field).row
item_sync = let t = term_sync in let a = assign_sync in let g = guard_sync in let p = part_sync in search (sendable, items_sync, crosses) depth 20

loop_send : IsSend (loop.the_field).row
loop_send = let t = term_send in let i = item_send in search (sendable, items_send, crosses) depth 20

loop_sync : IsSync (loop.the_field).row
loop_sync = let t = term_sync in let i = item_sync in search (sendable, items_sync, crosses) depth 20

decl_send : IsSend (decl.the_field).row
decl_send = let t = term_send in search (sendable, items_send, crosses) depth 20

decl_sync : IsSync (decl.the_field).row
decl_sync = let t = term_sync in search (sendable, items_sync, crosses) depth 20

tree_send : IsSend (tree.the_field).row
tree_send = let t = term_send in let l = loop_send in let d = decl_send in search (sendable, items_send) depth 20

tree_sync : IsSync (tree.the_field).row
tree_sync = let t = term_sync in let l = loop_sync in let d = decl_sync in search (sendable, items_sync) depth 20

kernel_send : IsSend kernel.the_row
kernel_send = let t = tree_send in search (sendable, crosses) depth 20

kernel_sync : IsSync kernel.the_row
kernel_sync = let t = tree_sync in search (sendable, crosses) depth 20

body_send : IsSend (body.the_field).row
body_send = let t = term_send in let i = item_send in search (sendable, items_send) depth 20

body_sync : IsSync (body.the_field).row
body_sync = let t = term_sync in let i = item_sync in search (sendable, items_sync) depth 20

program_send : IsSend (program.the_field).row
program_send = let b = body_send in search (sendable, items_send) depth 20

program_sync : IsSync (program.the_field).row
program_sync = let b = body_sync in search (sendable, items_sync) depth 20

env_send : IsSend env.the_row
env_send = search (sendable, crosses) depth 40

env_sync : IsSync env.the_row
env_sync = search (sendable, crosses) depth 40

shape_sync : IsSync shape.the_row
shape_sync = search (sendable, items_sync, crosses) depth 40

touches_sync : IsSync touches.the_row
touches_sync = search (sendable, items_sync, crosses) depth 40

moved_send : IsSend (moved.the_field).row
moved_send = search (sendable, items_send, crosses) depth 40

moved_sync : IsSync (moved.the_field).row
moved_sync = search (sendable, items_sync, crosses) depth 40

pub runner_send : (κ : NamedLft) → IsSend (runner.the_row κ)
runner_send κ =
    let k = kernel_sync in let e = env_sync in let s = shape_sync in let t = touches_sync in let p = program_send in let m = moved_send in let o = env_send in
    search (sendable, crosses) depth 60

pub runner_sync : (κ : NamedLft) → IsSync (runner.the_row κ)
runner_sync κ =
    let k = kernel_sync in let e = env_sync in let s = shape_sync in let t = touches_sync in let p = program_sync in let m = moved_sync in
    search (sendable, crosses) depth 60
