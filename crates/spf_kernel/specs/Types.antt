-- The types that the definitions are about, passed on from one place. Declares nothing.
pub use Rattle.spf_base.specs.declared.place.Place.{Place}
pub use Rattle.spf_kernel.specs.declared.fault.Unkept.{Unkept}
pub use Rattle.spf_kernel.specs.declared.read.ix.TheConstants.{BRACKETS}
pub use Rattle.spf_kernel.specs.declared.note.Note.{Note}
pub use Rattle.spf_kernel.specs.declared.note.Says.{Says}
pub use Rattle.spf_kernel.specs.declared.note.Scope.{Scope}
pub use Rattle.spf_kernel.specs.declared.note.Sort.{Sort}
pub use Rattle.spf_kernel.specs.declared.note.Spot.{Spot}
pub use Rattle.spf_kernel.specs.declared.raw.RawAssign.{RawAssign}
pub use Rattle.spf_kernel.specs.declared.raw.RawAtom.{RawAtom, RawAtom', RawAtom-at-None', RawAtom-at-Some', Row_of-RawIx, end_of-RawIx, more_of-RawIx, out-RawAtom, roll-RawAtom}
pub use Rattle.spf_kernel.specs.declared.raw.RawCond.{RawCond}
pub use Rattle.spf_kernel.specs.declared.raw.RawDecl.{RawDecl}
pub use Rattle.spf_kernel.specs.declared.raw.RawFactor.{Paren', RawFactor, Row_of-RawValue, end_of-RawValue, more_of-RawValue}
pub use Rattle.spf_kernel.specs.declared.raw.RawGuard.{RawGuard}
pub use Rattle.spf_kernel.specs.declared.raw.RawItem.{RawItem}
pub use Rattle.spf_kernel.specs.declared.raw.RawIx.{RawIx, RawIx', Row_of-RawStep, end_of-RawStep, more_of-RawStep, out-RawIx, roll-RawIx}
pub use Rattle.spf_kernel.specs.declared.raw.RawKernel.{RawKernel}
pub use Rattle.spf_kernel.specs.declared.raw.RawLoop.{RawLoop}
pub use Rattle.spf_kernel.specs.declared.raw.RawMono.{Number', RawMono, RawMono-Number-1-None', RawMono-Number-1-Some'}
pub use Rattle.spf_kernel.specs.declared.raw.RawPart.{RawPart}
pub use Rattle.spf_kernel.specs.declared.raw.RawRange.{RawRange}
pub use Rattle.spf_kernel.specs.declared.raw.RawSized.{RawSized}
pub use Rattle.spf_kernel.specs.declared.raw.RawStep.{RawStep, roll-RawStep}
pub use Rattle.spf_kernel.specs.declared.raw.RawSummand.{RawSummand, roll-RawSummand}
pub use Rattle.spf_kernel.specs.declared.raw.RawValue.{RawValue, RawValue', Row_of-RawFactor, Row_of-RawSummand, end_of-RawFactor, end_of-RawSummand, more_of-RawFactor, more_of-RawSummand, roll-RawValue}
pub use Rattle.spf_kernel.specs.declared.tree.Assign.{Assign}
pub use Rattle.spf_kernel.specs.declared.tree.Becomes.{Becomes}
pub use Rattle.spf_kernel.specs.declared.tree.Compare.{Compare}
pub use Rattle.spf_kernel.specs.declared.tree.Cond.{Cond}
pub use Rattle.spf_kernel.specs.declared.tree.DataDecl.{DataDecl}
pub use Rattle.spf_kernel.specs.declared.tree.Decl.{Decl}
pub use Rattle.spf_kernel.specs.declared.tree.Factor.{Factor}
pub use Rattle.spf_kernel.specs.declared.tree.Guard.{Guard}
pub use Rattle.spf_kernel.specs.declared.tree.Item.{Item}
pub use Rattle.spf_kernel.specs.declared.tree.Loop.{Loop}
pub use Rattle.spf_kernel.specs.declared.tree.Part.{Part}
pub use Rattle.spf_kernel.specs.declared.tree.Prod.{Prod, roll-Prod}
pub use Rattle.spf_kernel.specs.declared.tree.Tree.{Tree}
pub use Rattle.spf_kernel.specs.declared.tree.Trend.{Trend}
pub use Rattle.spf_kernel.specs.declared.tree.Value.{Row_of-Factor, Row_of-Prod, Value, Value', end_of-Factor, end_of-Prod, more_of-Factor, more_of-Prod, roll-Value}
pub use Rattle.spf_kernel.specs.declared.printing.tree_names.TreeNames.{TreeNames}
pub use Rattle.spf_kernel.specs.declared.read.value.TheConstants.{PARENTHESES}
pub use Rattle.spf_lex.specs.declared.cursor.Token.{Token}
pub use Rattle.spf_lex.specs.declared.kind.Kind.{Kind}
pub use Rattle.spf_lex.specs.declared.text_kind.TextKind.{TextKind}
pub use Rattle.spf_lex.specs.declared.token_list.Span.{Span}
pub use Rattle.spf_term.specs.declared.term.Atom.{App, Param, Var}
pub use Rattle.spf_term.specs.declared.term.Mono.{Mono, roll-Mono}
pub use Rattle.spf_term.specs.declared.term.Term.{Row_of-Mono, Term, Term', end_of-Mono, more_of-Mono, roll-Term}
