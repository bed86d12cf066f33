-- Comment lines put into a rule file (document 02, L1, "Remarks between the rules").
use Rattle.std.specs.Prelude.{Bool, cond, List, [], ◌∷◌, ◌++◌, ℕ, ◌+◌, eqb, leb}
use Rattle.refusal.specs.Reply.{refusal}
use Rattle.rule_file.specs.Format.{without, Reading, refuses, gives}

-- a comment line: `c`, its text, in which there is no line feed, and the line feed that ends it
abbrev pub comment_line : List ℕ → List ℕ
comment_line text = 99 ∷ (text ++ 10 ∷ [])

abbrev pub is_text : List ℕ → Bool
is_text text = without 10 text

-- Whether a line begins behind some bytes: the last of them is a line feed. Where there are none, the flag says it.
abbrev pub ends_line : Bool → List ℕ → Bool
ends_line here [] = here
ends_line here (b ∷ s) = ends_line (eqb b 10) s

-- Where a place of a file comes to stand when so many bytes are put in at another: the places from there on move.
abbrev pub moved : ℕ → ℕ → ℕ → ℕ
moved from by place = cond (leb from place) (place + by) place

-- what reading gives, with the place of a refusal so moved
abbrev pub moved_reading : ℕ → ℕ → Reading → Reading
moved_reading from by (refuses r) = refuses (refusal r.number (moved from by r.place))
moved_reading from by (gives n c list) = gives n c list
