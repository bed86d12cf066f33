-- `totalizer_groups::added_by` meets its contract, by recursion on the number of leaves: a group adds what its halves add, and as many as it has leaves.
use Rattle.totalizer_groups.proofs.+added_by.Given as goal

abbrev pub decreases-added_by : goal.decreases-added_by
decreases-added_by l = l.m
