-- The numbers of the judgement's own refusals, by name: document 02's 30 to 36.
use Rattle.std.specs.Prelude.{ℕ}
use Rattle.models.specs.declared.reason.Reason.{Reason}
use Rattle.models.specs.declared.reason.Reason.TheVariants.{Names, Syntax, Unknown, Again, Misfit, Absent, Contradicted}

-- the number that callers are told
abbrev pub reason_number : Reason → ℕ
reason_number Names = 30
reason_number Syntax = 31
reason_number Unknown = 32
reason_number Again = 33
reason_number Misfit = 34
reason_number Absent = 35
reason_number Contradicted = 36
