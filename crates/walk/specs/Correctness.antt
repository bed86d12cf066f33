-- Every walk is right: what it finds is a model within the limit that extends the state it started from, and where it finds nothing no model within the limit extends that state.
use Rattle.std.specs.Prelude.{List, ℕ, ◌<◌, ℤ, Option, None, Some}
use Rattle.distance.specs.Distance.{disagreement}
use Rattle.choices.specs.Choices.{Model}
use Rattle.walk.specs.Walk.{Answer}
use Rattle.walk.specs.Promises.{ModelWithin}
use Rattle.walk.specs.Extension.{Extends}

-- what the answer of a search says of the state a that it started from, whatever the search is
abbrev pub Right : ℕ → List (List ℤ) → List ℕ → ℕ → List ℕ → Option Answer → Type 0
Right n f row d a None = (c : List ℕ) → Model n f c → Extends c a → d < disagreement row c
Right n f row d a (Some x) = ModelWithin n f row d x × Extends x.choice a
