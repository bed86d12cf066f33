-- The answer for a header, by the definition `header`.
use Rattle.std.specs.Prelude.{ℕ, ◌+◌, Option, None, Some}
use Rattle.rule_file.specs.Format.{Header}
use Rattle.rule_file_header.specs.declared.Header as D

-- its numbers, and the place past it if it begins at one
abbrev pub header_as : ℕ → Option Header → Option D.Header
header_as at None = None
header_as at (Some h) = Some (record { variables = h.variables; clauses = h.clauses; next = at + h.size })
