-- How many conjunctions an operation makes, and operands whose results have variables with numbers of 32 bits.
use Rattle.std.specs.Prelude.{ℕ, ◌+◌, ◌*◌, nat_le, Bool, ◌&&◌}
use Rattle.std.specs.List.{list_all}
use Rattle.spf_rel.specs.declared.relation.Conj.{Conj}
use Rattle.spf_calc.specs.Values.{conjs_of}
use Rattle.spf_calc.specs.declared.operating.TheConstants.{ROOM}
use Rattle.spf_calc.specs.declared.raw.Operation.{Operation}
use Rattle.spf_calc.specs.declared.raw.Operation.TheVariants.{Union}
use Rattle.spf_calc.specs.declared.value.Value.{Value}
use Rattle.spf_calc.specs.declared.value.Value.TheVariants.{Points, Pairs}

-- of operands with these many conjunctions
abbrev pub count_of : Operation → ℕ → ℕ → ℕ
count_of Union first second = first + second
count_of _ first second = first * second

abbrev pub ins_of : Value → ℕ
ins_of (Points set) = set.arity
ins_of (Pairs rel) = rel.ins

abbrev pub outs_of : Value → ℕ
outs_of (Points set) = 0
outs_of (Pairs rel) = rel.outs

abbrev pub has_room : Value → Bool
has_room value = nat_le (ins_of value) ROOM && nat_le (outs_of value) ROOM && list_all (λ (conj : Conj). nat_le conj.inner ROOM) (conjs_of value)
