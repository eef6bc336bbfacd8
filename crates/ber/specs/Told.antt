-- What the functions that read X.690's octets answer, in terms of the reading of items; n octets were lent (X.690, 8.1).
-- Assumes nothing.
use Rattle.std.specs.Prelude.{Bool, true, false, not, List, ℕ, ◌+◌, ◌-◌, ltb, leb, eqb, length, get_or, drop, Option, Some, None, Result, Ok, Err}
use Rattle.std.specs.Result.{result_unwrap_or}
use Rattle.x690.specs.declared.ReadingCause.{ReadingCause}
use Rattle.x690.specs.declared.ReadingCause.TheVariants.{Cut, Forbidden}
use Rattle.octets.specs.Answer.{Answer, got, refused, if, none_left}
use Rattle.ber.specs.Codes.{code_of}
use Rattle.x690.specs.Reading.{Size, definite, indefinite, read_length, Mode, closed, open_ended}
use Rattle.ber.specs.declared.identifier.Identifier.{Identifier}
use Rattle.ber.specs.declared.length.Extent.{Extent}

unfoldable pub told_identifier : ℕ → Answer ReadingCause (List ℕ) → Result Identifier ReadingCause
told_identifier n (got i s) = Ok (record { code = code_of i; end = n - length s })
told_identifier n (refused c l) = Err c

-- indefinite contents may go to the end of what was lent
unfoldable pub told_length : ℕ → Answer ReadingCause Size → Result Extent ReadingCause
told_length n (got (definite k) s) = Ok (record { start = n - length s; end = n - length s + k; indefinite = false })
told_length n (got indefinite s) = Ok (record { start = n - length s; end = n; indefinite = true })
told_length n (refused c l) = Err c

abbrev pub mode : Bool → Mode
mode true = open_ended
mode false = closed

-- where contents end at s, the last of the n octets; none if an item follows
unfoldable pub end_of : Bool → ℕ → List ℕ → Result (Option ℕ) ReadingCause
end_of false n s = if (none_left s) (Ok (Some n)) λ _. Ok None
end_of true n s =
    if (none_left s) (Err Cut) λ _.
    if (not (eqb (get_or s 0 0) 0)) (Ok None) λ _.
    if (none_left (drop 1 s)) (Err Cut) λ _.
    if (not (eqb (get_or s 1 0) 0)) (Err Forbidden) λ _.
    Ok (Some (n - length (drop 2 s)))

-- no octets
abbrev pub no_extent : Extent
no_extent = record { start = 0; end = 0; indefinite = false }

-- The extent of the length at a place of m where one was read before. So contents in the short form are not tried whether they fit (X.690, 8.1.3.4).
unfoldable pub again_at : List ℕ → ℕ → Extent
again_at m at =
    if (leb (length m) at) no_extent λ _.
    if (ltb (get_or m at 0) 128) (record { start = at + 1; end = at + 1 + get_or m at 0; indefinite = false }) λ _.
    result_unwrap_or (told_length (length m) (read_length 0 (drop at m))) no_extent
