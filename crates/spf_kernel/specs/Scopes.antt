-- The variables that are in scope.
use Rattle.spf_lex.specs.declared.cursor.Token.{Token}
use Rattle.spf_kernel.specs.declared.note.Scope.{Scope}

abbrev pub nothing : Scope
nothing = Scope.Nothing

abbrev pub within : Token → Scope
within outer = Scope.Within outer

abbrev pub inside : Token → Token → Scope
inside outer inner = Scope.Inside outer inner
