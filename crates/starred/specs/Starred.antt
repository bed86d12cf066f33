-- The cases that document 01 marks with a star ("Examples"), as document 02 has changed them since, in one list that one theorem covers.
use Rattle.std.specs.Prelude.{◌≡◌, refl, List, [], ◌∷◌, ◌++◌, map, ℕ, ℤ, pos, take}
use Rattle.refusal.specs.Reply.{Reply, refusal, refusing, answering}
use Rattle.search_meaning.specs.Searches.{search_reply, nearest_reply}
use Rattle.rule_file.specs.Class.{class_of}
use Rattle.wish_file.specs.Examples as example
use Rattle.rule_file_reader.specs.Read as rule
use Rattle.wish_file_reader.specs.Read as wish

-- what the definitions give, and what the documents state
pub record Case : Type 0 where
  pub given : Reply
  pub stated : Reply

-- nearest, and the wish search with a limit, where a choice of n bytes is lent
abbrev nearest_of : ℕ → List ℤ → List ℕ → Reply
nearest_of n rules row = nearest_reply n rules row n

abbrev search_of : ℕ → List ℤ → List ℕ → ℕ → Reply
search_of n rules row d = search_reply n rules row d n

-- the readers, where no room is lent: the starred files but one are refused for causes that come before that of the room
abbrev rule_file : List ℕ → Reply
rule_file file = rule.read_reply file 0

abbrev wish_file : List ℕ → Reply
wish_file file = wish.read_reply file 0

abbrev one_or_two : List ℤ
one_or_two = pos 1 ∷ pos 2 ∷ pos 0 ∷ []

abbrev both_off : List ℕ
both_off = 0 ∷ 0 ∷ []

-- `p cnf 1 1` and a line feed, and some bytes after it
abbrev after_header : List ℕ → List ℕ
after_header s = (112 ∷ 32 ∷ 99 ∷ 110 ∷ 102 ∷ 32 ∷ 49 ∷ 32 ∷ 49 ∷ 10 ∷ []) ++ s

abbrev pub starred : List Case
starred =
    -- "n = 2, rule 1 2, both wished off: nearest 1; limit 0 none; limit 1 found"
    record { given = nearest_of 2 one_or_two both_off; stated = answering 1 1 0 0 }
    ∷ record { given = search_of 2 one_or_two both_off 0; stated = answering 0 0 0 0 }
    ∷ record { given = search_of 2 one_or_two both_off 1; stated = answering 1 1 0 0 }
    -- "One empty rule: nearest none"
    ∷ record { given = nearest_of 1 (pos 0 ∷ []) (1 ∷ []); stated = answering 0 0 0 0 }
    -- "n = 1, no rules: the wish is kept at limit 0"
    ∷ record { given = search_of 1 [] (0 ∷ []) 0; stated = answering 1 0 0 0 }
    ∷ record { given = search_of 1 [] (1 ∷ []) 0; stated = answering 1 0 0 0 }
    -- "empty file 1 at 0"
    ∷ record { given = rule_file []; stated = refusing (refusal 1 0) }
    -- "After `p cnf 1 1` and a line feed": "`-0 0` 3 at 10", "`2 0` 4 at 10", "`1` and the end 6 at 11"
    ∷ record { given = rule_file (after_header (45 ∷ 48 ∷ 32 ∷ 48 ∷ [])); stated = refusing (refusal 3 10) }
    ∷ record { given = rule_file (after_header (50 ∷ 32 ∷ 48 ∷ [])); stated = refusing (refusal 4 10) }
    ∷ record { given = rule_file (after_header (49 ∷ [])); stated = refusing (refusal 6 11) }
    -- "`1 -1 0`", which document 01 refuses: "Case `1 -1 0` becomes accepted" (document 02, L3), with N = 1, C = 1 and a list of three numbers, for which room is lent
    ∷ record { given = rule.read_reply (after_header (49 ∷ 32 ∷ 45 ∷ 49 ∷ 32 ∷ 48 ∷ [])) 3; stated = answering 1 1 1 3 }
    -- "A 15-byte wish file: 8 at 0"
    ∷ record { given = wish_file (take 15 example.both_off); stated = refusing (refusal 8 0) }
    ∷ []

pub starred_hold : map (λ (c : Case). c.given) starred ≡ map (λ (c : Case). c.stated) starred
unfolding class_of
starred_hold = refl
