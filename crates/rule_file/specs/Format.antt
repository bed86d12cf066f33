-- The rule file (document 01, "The rule file"), a narrowed DIMACS CNF, and the causes to refuse one ("Refusals", 1 to 4, 6 and 7).
use Rattle.std.specs.Prelude.{Bool, true, false, cond, not, ◌&&◌, ◌||◌, List, [], ◌∷◌, map, ℕ, zero, suc, ◌+◌, eqb, leb, ltb, ℤ, pos, negsuc, length, drop, Option, None, Some, unwrap_or}
use Rattle.literal.specs.Literal.{variable}
use Rattle.formula.specs.Formula.{all, closes}
use Rattle.refusal.specs.declared.Refusal.{Refusal}
use Rattle.refusal.specs.Reply.{refusal, first, cause}
use Rattle.limits.specs.Limits.{max_variables, max_clauses, max_literals}
use Rattle.rule_list.specs.Sound.{Scan, unread, may_join, after, unclosed}
use Rattle.decimal.specs.Decimal.{number}
use Rattle.rule_file.specs.Class.{minus, letter_c, class_of}
use Rattle.rule_file.specs.Tokens.{leading, Token, tokens_from}

-- The place of the first line that is no comment: "Lines beginning with `c` may precede the header and run to a line feed or the end of the file." The flag says whether the bytes begin inside such a line.
abbrev pub past_comments : Bool → ℕ → List ℕ → ℕ
past_comments inside at [] = at
past_comments false at (b ∷ s) = cond (eqb (class_of b) letter_c) (past_comments true (suc at) s) at
past_comments true at (b ∷ s) = past_comments (not (eqb b 10)) (suc at) s

-- `p cnf `
abbrev pub preamble : List ℕ
preamble = 112 ∷ 32 ∷ 99 ∷ 110 ∷ 102 ∷ 32 ∷ []

-- some bytes begin with others
abbrev pub starts_with : List ℕ → List ℕ → Bool
starts_with [] s = true
starts_with (p ∷ ps) [] = false
starts_with (p ∷ ps) (b ∷ s) = eqb p b && starts_with ps s

-- a header's N and C, and how many bytes it has with its line feed
pub record Header : Type 0 where
  pub variables : ℕ
  pub clauses : ℕ
  pub size : ℕ

-- a header needs both of its numbers
abbrev pub numbered : Option ℕ → Option ℕ → ℕ → Option Header
numbered None c size = None
numbered (Some n) None size = None
numbered (Some n) (Some c) size = Some (record { variables = n; clauses = c; size = size })

-- no byte of some is stop
abbrev pub without : ℕ → List ℕ → Bool
without stop s = all (λ (b : ℕ). not (eqb b stop)) s

-- the bytes before the first that is stop, and those after it
abbrev pub before : ℕ → List ℕ → List ℕ
before stop s = leading (λ (b : ℕ). not (eqb b stop)) s

abbrev pub beyond : ℕ → List ℕ → List ℕ
beyond stop s = drop (suc (length (before stop s))) s

-- "The header is `p cnf N C`, single spaces, then a line feed.": what some bytes begin with, if it is one
abbrev pub header : List ℕ → Option Header
header s =
    let n : List ℕ = before 32 (drop 6 s) in
    let rest : List ℕ = beyond 32 (drop 6 s) in
    let c : List ℕ = before 10 rest in
    cond (starts_with preamble s && ltb (length c) (length rest)) (numbered (number n) (number c) (6 + (suc (length n) + suc (length c)))) None

-- "N is 1 to 640, C 0 to 9,000"
abbrev pub outside : ℕ → ℕ → Bool
outside n c = eqb n 0 || (ltb max_variables n || ltb max_clauses c)

-- a number as it stands, and behind a minus, where 0 is none
abbrev pub positive : Option ℕ → Option ℤ
positive None = None
positive (Some v) = Some (pos v)

abbrev pub negative : Option ℕ → Option ℤ
negative None = None
negative (Some zero) = None
negative (Some (suc k)) = Some (negsuc k)

-- "A token is a number, or a minus and a number other than 0."
abbrev pub signed : List ℕ → Option ℤ
signed [] = None
signed (b ∷ w) = cond (eqb (class_of b) minus) (negative (number w)) (positive (number (b ∷ w)))

-- the list's element that a token gives
abbrev pub element : Token → ℤ
element t = unwrap_or (signed t.bytes) (pos 0)

-- "An equal entry is stored once, at its first place." (document 02, L3): whether a number, after what s says was read, repeats a literal of the open clause, and whether it is a further literal of it
abbrev pub repeats : Scan → ℤ → Bool
repeats s x = not (closes x) && not (may_join s.clause x)

abbrev pub adds : Scan → ℤ → Bool
adds s x = not (closes x) && may_join s.clause x

-- what was read then: a repeat counts for nothing ("Entry counts are taken after dropping repeats.")
abbrev pub past : Scan → ℤ → Scan
past s x = cond (repeats s x) s (after s x)

-- the cause to refuse a token at a place, after what s says was read: "at one token 3, 6, 7, 4" (document 02, L3, leaves out 5)
abbrev pub bad_token : ℕ → ℕ → Scan → ℕ → Option ℤ → Option Refusal
bad_token n c s place None = Some (refusal 3 place)
bad_token n c s place (Some x) =
    first
    (cause (leb c s.clauses) 6 place
    ∷ cause (adds s x && leb max_literals s.literals) 7 place
    ∷ cause (ltb n (variable x)) 4 place
    ∷ [])

-- the first cause from a token on, in a file of n variables, c clauses and so many bytes
abbrev pub bad_tokens : ℕ → ℕ → ℕ → Scan → List Token → Option Refusal
bad_tokens n c size s [] = cause (ltb s.clauses c || unclosed s.clause) 6 size
bad_tokens n c size s (t ∷ ts) =
    first (bad_token n c s t.place (signed t.bytes) ∷ bad_tokens n c size (past s (element t)) ts ∷ [])

-- what reading a file gives: a refusal, or N, C and the rule list
pub data Reading : Type 0 where
  refuses : Refusal → Reading
  gives : ℕ → ℕ → List ℤ → Reading

-- the numbers of a file that are stored, after what s says was read: all but the repeats
abbrev pub stored : Scan → List ℤ → List ℤ
stored s [] = []
stored s (x ∷ l) = cond (repeats s x) (stored s l) (x ∷ stored (after s x) l)

abbrev pub rules_of : List Token → List ℤ
rules_of ts = stored unread (map element ts)

-- the reading of good tokens
abbrev pub read_tokens : ℕ → ℕ → List Token → Option Refusal → Reading
read_tokens n c ts None = gives n c (rules_of ts)
read_tokens n c ts (Some r) = refuses r

-- the reading of a file whose first line that is no comment stands at a place
abbrev pub read_from : List ℕ → ℕ → Option Header → Reading
read_from file at None = refuses (refusal 1 at)
read_from file at (Some h) =
    let next : ℕ = at + h.size in
    let ts : List Token = tokens_from file next in
    cond (outside h.variables h.clauses)
    (refuses (refusal 2 at))
    (read_tokens h.variables h.clauses ts (bad_tokens h.variables h.clauses (length file) unread ts))

-- the reading of a file
abbrev pub reading : List ℕ → Reading
reading file =
    let at : ℕ = past_comments false 0 file in
    read_from file at (header (drop at file))
