-- Both routes and nearest on the first starred case of document 01 ("n = 2, rule 1 2, both wished off: nearest 1; limit 0 none; limit 1 found"), with room for all that is written.
use Rattle.std.specs.Prelude.{◌≡◌, refl, List, [], ◌∷◌, ℕ, ℤ, pos, replicate, None, Some}
use Rattle.std.proofs.Common.{arith}
use Rattle.decimal.specs.Decimal.{decimal, digits}
use Rattle.rule_file.specs.Class.{class_of}
use Rattle.search_meaning.specs.Searches.{found}
use Rattle.agreement.specs.Claim.{Admissible}
use Rattle.agreement_second_route.specs.Routes.{first_route, Buffers, second_route, nearest_route}

abbrev rules : List ℤ
rules = pos 1 ∷ pos 2 ∷ pos 0 ∷ []

abbrev row : List ℕ
row = 0 ∷ 0 ∷ []

abbrev lent : Buffers
lent = record { rewritten = replicate 25 (pos 0); file = replicate 80 0; list = replicate 25 (pos 0); choice = replicate 4 0 }

example_none : (first_route 2 rules row 0 lent.choice ≡ found None) × (second_route 2 rules row 0 lent ≡ found None)
unfolding class_of decimal digits
example_none = (refl, refl)

example_found : (first_route 2 rules row 1 lent.choice ≡ found (Some 1)) × (second_route 2 rules row 1 lent ≡ found (Some 0))
unfolding class_of decimal digits
example_found = (refl, refl)

example-nearest : nearest_route 2 rules row lent.choice ≡ found (Some 1)
example-nearest = refl

-- it is admitted, so the claim speaks of it
example_admitted : Admissible 2 rules row
example_admitted = record { d = 1; limited = omega arith; room = 25; passes = tt }
