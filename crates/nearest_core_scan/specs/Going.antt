-- The way through all wishes: its start, one variable after the other, and its end.
use Rattle.std.specs.Prelude.{◌≡◌, refl, List, map, ℕ, suc, ◌+◌, ◌-◌, ◌≤◌, ◌<◌, ℤ, length, take}
use Rattle.std.proofs.Common.{sym, ap, subst, ◌∙◌, add-one, arith}
use Rattle.std.proofs.lemmas.List.{length-map}
use Rattle.std.proofs.Math.Seq.{slice_empty}
use Rattle.formula.specs.Formula.{clauses}
use Rattle.walk_unit_queue.specs.Due.{NoneDue}
use Rattle.walk_tally.specs.declared.Tally.{Tally}
use Rattle.walk_propagation.specs.Looking.{Following}
use Rattle.walk_propagation.specs.Searching.{settled_most}
use Rattle.walk_propagation.specs.Trail.{undone}
use Rattle.nearest_cores.specs.Cores.{Scan, taken_byte, scan_from, scan}
use Rattle.nearest_core_scan.specs.declared.progress.Progress.{Progress}
use Rattle.nearest_core_scan.specs.Broken.{free_unbroken}
use Rattle.nearest_core_scan.specs.Closing.{among_none}
use Rattle.nearest_core_scan.specs.ScanLaws.{same_size}
use Rattle.nearest_core_scan.specs.Scanning.{present, set_back, Scanning, Scanned}
use Rattle.nearest_core_scan.specs.Taking.{left_free_start}

-- after i variables, from the state b with its trail: what is left comes to what all come to
pub record Going (rules : List ℤ) (arrangement row : List ℕ) (base : Tally) (b trail₀ : List ℕ) (i : ℕ) (p : Progress) (a trail taken assumed : List ℕ) : Type 0 where
  pub scanning : Scanning rules arrangement row base b (i + 1) p a trail taken assumed
  pub rest : scan_from (length b - i) (clauses rules) row b (present p a taken assumed) (i + 1) ≡ scan (clauses rules) row b
  pub kept : take base.settled trail ≡ take base.settled trail₀

module _ {rules : List ℤ} {arrangement row : List ℕ} {base : Tally} {b trail₀ : List ℕ} where
  pub going_start : Following rules arrangement row base b trail₀ → NoneDue (clauses rules) b → (taken assumed : List ℕ) → taken ≡ map taken_byte b → length b < length assumed
      → Going rules arrangement row base b trail₀ 0 (record { tally = base; assumed = 0; bound = base.broken }) b trail₀ taken assumed
  going_start h quiet taken assumed e room =
      let s = h.looking.searching in
      let all : length b - 0 ≡ length b = omega arith in
      rw e
      (record {
        scanning =
            record {
              following = h;
              quiet = quiet;
              base_following = h;
              base_quiet = quiet;
              since = omega arith;
              back = ap (λ (vs : List ℕ). undone vs b) (slice_empty base.settled trail₀);
              left_free = left_free_start b;
              unbroken = free_unbroken row (map taken_byte b) b (left_free_start b);
              among = among_none (length b);
              few = omega arith;
              room = room;
              wide = length-map b taken_byte;
              small = omega (arith, s.few, settled_most s);
            };
        rest =
            ap (λ (k : ℕ). scan_from k (clauses rules) row b (present (record { tally = base; assumed = 0; bound = base.broken }) b (map taken_byte b) assumed) 1) all
            ∙ ap (λ (m : ℕ). scan_from (length b) (clauses rules) row b (record { values = b; assumed = take 0 assumed; taken = map taken_byte b; bound = m }) 1) s.breaks;
        kept = refl;
      })

  module _ {i : ℕ} {p : Progress} {a trail taken assumed : List ℕ} (g : Going rules arrangement row base b trail₀ i p a trail taken assumed) where
    -- the next variable
    pub going_call : Scanning rules arrangement row base (set_back base p trail a) (i + 1) p a trail taken assumed
    going_call = rw g.scanning.back g.scanning

    pub going_next : i < length a → {r : Progress} {a' trail' taken' assumed' : List ℕ}
        → Scanned rules arrangement row base (set_back base p trail a) (i + 1) (present p a taken assumed) trail r a' trail' taken' assumed'
        → Going rules arrangement row base b trail₀ (i + 1) r a' trail' taken' assumed'
    going_next l {r} {a'} {trail'} {taken'} {assumed'} said =
        let w = subst (λ (c : List ℕ). Scanned rules arrangement row base c (i + 1) (present p a taken assumed) trail r a' trail' taken' assumed') g.scanning.back said in
        let one : length b - i ≡ suc (length b - (i + 1)) = omega (arith, same_size g.scanning) in
        record {
          scanning = subst (λ (v : ℕ). Scanning rules arrangement row base b v r a' trail' taken' assumed') (sym (add-one (i + 1))) w.next;
          rest =
              ap (λ (v : ℕ). scan_from (length b - (i + 1)) (clauses rules) row b (present r a' taken' assumed') v) (add-one (i + 1))
              ∙ ap (λ (s : Scan). scan_from (length b - (i + 1)) (clauses rules) row b s (suc (i + 1))) w.step
              ∙ ap (λ (k : ℕ). scan_from k (clauses rules) row b (present p a taken assumed) (i + 1)) (sym one)
              ∙ g.rest;
          kept = w.kept ∙ g.kept;
        }

    -- none is left
    pub going_end : length a ≤ i → present p a taken assumed ≡ scan (clauses rules) row b
    going_end l =
        let none : length b - i ≡ 0 = omega (arith, same_size g.scanning) in
        ap (λ (k : ℕ). scan_from k (clauses rules) row b (present p a taken assumed) (i + 1)) (sym none) ∙ g.rest
