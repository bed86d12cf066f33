-- The tests of the numbers on a line, each where those before it do not hold.
use Rattle.std.specs.Prelude.{◌≡◌, true, ℕ, ◌≤◌, ◌<◌, ltb}
use Rattle.std.proofs.Common.{lt-ltb, le-ltb, le-leb, eq-eqb, ne_eqb}
use Rattle.std.proofs.lemmas.Bool.{lt-leb}
use Rattle.limits.specs.Limits.{max_wish_variables, max_wishes, max_limit}
use Rattle.wish_file.specs.Format.{outside, misfit}
use Rattle.wish_file.specs.Wishes.{Wish}

-- the tests of line one, in their order
module _ (n m d : ℕ) where
  pub none_variables : n ≡ 0 → outside n m d ≡ true
  none_variables e = rw (eq-eqb n 0 e)

  module _ (some-variables : n ≡ 0 → ⊥) where
    pub many_variables : max_wish_variables < n → outside n m d ≡ true
    many_variables h = rw (ne_eqb n 0 some-variables, lt-ltb max_wish_variables n h)

    pub more_wishes : n ≤ max_wish_variables → n < m → outside n m d ≡ true
    more_wishes h k = rw (ne_eqb n 0 some-variables, le-ltb max_wish_variables n h, lt-ltb n m k)

    pub many_wishes : n ≤ max_wish_variables → m ≤ n → max_wishes < m → outside n m d ≡ true
    many_wishes h k l = rw (ne_eqb n 0 some-variables, le-ltb max_wish_variables n h, le-ltb n m k, lt-ltb max_wishes m l)

    pub by_limit : n ≤ max_wish_variables → m ≤ n → m ≤ max_wishes → outside n m d ≡ ltb max_limit d
    by_limit h k l = rw (ne_eqb n 0 some-variables, le-ltb max_wish_variables n h, le-ltb n m k, le-ltb max_wishes m l)

-- the tests of a wish, in their order
module _ (n last : ℕ) (w : Wish) where
  pub not_rising : w.variable ≤ last → misfit n last w ≡ true
  not_rising h = rw (le-leb w.variable last h)

  pub above : last < w.variable → n < w.variable → misfit n last w ≡ true
  above h k = rw (lt-leb w.variable last h, lt-ltb n w.variable k)

  pub by_mark : last < w.variable → w.variable ≤ n → misfit n last w ≡ ltb 1 w.mark
  by_mark h k = rw (lt-leb w.variable last h, le-ltb n w.variable k)
