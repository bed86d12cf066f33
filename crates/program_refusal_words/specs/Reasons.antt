-- What is wrong and what would be right, for each cause for which a program refuses two files (document 01, "Refusals"; 16 is document 02's, L2), by its number. That each refusal of a program has a sentence is `program_worded` in program_same_refusal/specs/Worded.antt.
use Rattle.std.specs.Prelude.{Bool, cond, List, [], ℕ, eqb, leb}
use Rattle.words.specs.Words.{ascii}

-- "token after C rules; or fewer than C closed, or one open, at the end"
abbrev pub wrong_count : Bool → List ℕ
wrong_count at_end =
    cond at_end
    (ascii "the file ends too early; it must close as many rules as C, the second number of the header, says, each by 0")
    (ascii "no rule is left for this number; C, the second number of the header, says how many rules there are")

-- The causes to refuse a rule file; the flag says whether the place is the file's end. 0 stands for a file, of either kind, that is longer than the 65,536 bytes that a program reads. These have no room for 31,001 entries, so that 7 does not come; that is not proved, and 7 has its sentence.
abbrev pub rule_reason : ℕ → Bool → List ℕ
rule_reason number at_end =
    cond (eqb number 0) (ascii "the file is longer than 65536 bytes; a program reads no more than that")
    (cond (eqb number 1) (ascii "no header here; the first line that does not begin with c must be `p cnf N C`, with single spaces, numbers of one to five digits without leading zeros, and a line feed right behind C")
    (cond (eqb number 2) (ascii "N or C of the header is out of range; N, the number of settings, is 1 to 640, and C, the number of rules, is 0 to 9000")
    (cond (eqb number 3) (ascii "this is neither an entry nor 0; an entry is a setting's number, 1 to the header's N, without leading zeros, with a minus for off, 0 closes a rule, and a comment is a line that begins with c")
    (cond (eqb number 4) (ascii "this entry's setting is above N; settings are numbered from 1 to N, the first number of the header")
    (cond (eqb number 6) (wrong_count at_end)
    (cond (eqb number 7) (ascii "this entry is one too many; a file has at most 31000 entries, without repeats and closing zeros")
    []))))))

-- the causes to refuse a wish file, and both together
abbrev pub wish_reason : ℕ → List ℕ
wish_reason number =
    cond (eqb number 8) (ascii "this line is missing, malformed or one too many; line 1 is settings, wishes, limit, each other line a setting and 1 or 0, right-justified in columns of 5, no leading zeros, then a line feed")
    (cond (eqb number 9) (ascii "a number of this line is out of range; the settings are 1 to 256, the wishes at most as many and at most 64, and the limit is 0 to 64")
    (cond (eqb number 10) (ascii "this wish is out of range or order; its setting is 1 to the first number of line 1 and above that of the wish before, and its value is 1 for on or 0 for off")
    (cond (eqb number 11) (ascii "the files differ in how many settings there are; the first number here must be N, the first of the rule file's header, which beside a wish file is at most 256")
    (cond (eqb number 12) (ascii "this rule file is too large; beside a wish file there are at most 4096 rules and 16384 entries, without repeats and closing zeros")
    (cond (eqb number 16) (ascii "this rule has no entries, so no choice meets it and OPB has no line for it; give it an entry, or take it out and count one rule less in C")
    [])))))

-- The numbers without a sentence are no program's: 5 is never returned, and what a program lends to a call was read from its files, into room that suffices (13, 14, 15).
abbrev pub reason : ℕ → Bool → List ℕ
reason number at_end = cond (leb number 7) (rule_reason number at_end) (wish_reason number)

-- no sentence is longer
abbrev pub longest : ℕ
longest = 189
