-- Pieces taken or appended one after the other.
use Rattle.std.proofs.Common.{ℕ, ◌+◌, List, ◌++◌, take, drop, refl, ap, sym, ◌∙◌, append_assoc, Option, Some, None}
use Rattle.std.proofs.Math.Seq.{take-add}
use Rattle.spf_io.specs.Stream.{Takes, Appends}

-- two pieces that were taken one after the other were taken as one
pub taken_on : (before middle after : Option (List ℕ)) (xs ys : List ℕ) → Takes before xs middle → Takes middle ys after → Takes before (xs ++ ys) after
taken_on before middle None xs ys first second = rw (first, second) refl
taken_on before middle (Some rest) xs ys first second = rw (first, second) (ap Some (sym (append_assoc xs ys rest)))

-- two pieces that were appended one after the other were appended as one
pub appended_on : (before middle after : Option (List ℕ)) (bytes : List ℕ) (done n : ℕ) → Appends before (take done bytes) middle → Appends middle (take n (drop done bytes)) after → Appends before (take (done + n) bytes) after
appended_on None middle after bytes done n first second = rw (second, first) refl
appended_on (Some stood) middle after bytes done n first second =
    rw (second, first) (ap Some (append_assoc stood _ _ ∙ ap (λ piece. stood ++ piece) (sym (take-add done n bytes))))
