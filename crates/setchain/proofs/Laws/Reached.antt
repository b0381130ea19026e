-- The chance of having reached a state follows its turns, and its figures obey them: the state itself stays, the others take their one-year figure.
use Rattle.std.specs.Prelude.{ℕ, ◌*◌, ◌<◌, ◌≡◌, Bool, cond, ◌||◌, eqb, length}
use Rattle.std.proofs.Math.Path.{refl, sym, subst}
use Rattle.std.proofs.Math.Bool.{true, false}
use mathlib.Core.List.{List, [], ◌∷◌}
use Rattle.std.proofs.Common.{arith}
use Rattle.std.proofs.Math.Nat.{le_refl, mul-pos}
use Rattle.setchain.specs.Sums.{only_if, dot}
use Rattle.setchain.specs.Fractions.{Fraction, whole, ◌⊗◌, ◌≈◌, Proper, sum_fractions}
use Rattle.setchain.specs.Rows.{ONE, SetChain, Row, Inside}
use Rattle.setchain.specs.Years.{share_payoff}
use Rattle.setchain.specs.Picks.{Matrix, InsideEach, none, also, entry_of, weigh}
use Rattle.setchain.specs.Turns.{Turn, add, stay, turned, turned_exact, Obeys, Follows}
use Rattle.setchain.specs.Step.{step_figure}
use Rattle.setchain.specs.Reached.{reached_figure, Sequence, begins_at, holds, along, sum_sequences, exact_reached, reached_in_parts}
use Rattle.setchain.proofs.Laws.Sums.{only_if_times, sum_to_eq}
use Rattle.setchain.proofs.Laws.Fractions.{zero_add, proper_row, same_trans, mul_same_left, sum_same, sum_weighed}
use Rattle.setchain.proofs.Laws.Mean.{proper_mean}
use Rattle.setchain.proofs.Laws.Follows.{in_unit, follows_as, unit_follows}
use Rattle.setchain.specs.Sequences.{SequenceOf, more}
use Rattle.setchain.proofs.Laws.Sequences.{sequences_proper, sequences_same, sequences_scale, first_fixed}

-- State j stays at b once it is reached; another state takes its one-year figure as it is.
abbrev pub reached_turn : (b j : ℕ) → ℕ → Turn
reached_turn b j i = cond (eqb i j) (stay b) (add 0)

-- The figures obey, low and high.
pub reached_obeys : (high : Bool) (c : SetChain) (j : ℕ) → Obeys high c (share_payoff j) (reached_turn ONE j) (reached_figure high c j)
unfolding reached_figure
reached_obeys high c j = record { start = λ i l. refl; more = λ t i l. by (eqb i j) (step_figure high c.states (c.row i) (reached_figure high c j t)) }
  where
    by : (b : Bool) (x : ℕ) → cond b ONE x ≡ turned (cond b (stay ONE) (add 0)) x
    by true x = refl
    by false x = omega arith

-- A term of the sum, by its test.
abbrev term : Bool → Fraction → Fraction
term b x = cond b x (whole 0)

term_proper : (b : Bool) (x : Fraction) → Proper x → Proper (term b x)
term_proper true x p = p
term_proper false x p = le_refl 1

term_scale : (b : Bool) (x y : Fraction) → x ⊗ term b y ≈ term b (x ⊗ y)
term_scale true x y = refl
term_scale false x y = omega arith

module _ (c : SetChain) where
  abbrev n : ℕ
  n = c.states

  -- No product along a sequence has the denominator 0.
  along_proper : (ps : List Matrix) → InsideEach c ps → (i : ℕ) → i < n → (ks : Sequence) → SequenceOf n (length ps) ks → Proper (along ps (i ∷ ks))
  unfolding along
  along_proper [] none i l ks w = le_refl 1
  along_proper (p ∷ ps) (also h rest) i l [] w = elim w [ ]
  along_proper (p ∷ ps) (also h rest) i l (k ∷ ks) (more m w) = mul-pos (proper_row (h i l)) (along_proper ps rest k m ks w)

  -- The sum over the sequences from state i on that pass a test.
  abbrev passing : (Sequence → Bool) → List Matrix → ℕ → Fraction
  passing test ps i = sum_sequences n (length ps) (λ ks. term (test (i ∷ ks)) (along ps (i ∷ ks)))

  passing_proper : (test : Sequence → Bool) (ps : List Matrix) → InsideEach c ps → (i : ℕ) → i < n → Proper (passing test ps i)
  passing_proper test ps inside i l =
      sequences_proper n (length ps) (λ ks. term (test (i ∷ ks)) (along ps (i ∷ ks)))
      (λ ks w. term_proper (test (i ∷ ks)) (along ps (i ∷ ks)) (along_proper ps inside i l ks w))

  -- One matrix more in front: the mean by its row.
  passing_more : (test : Sequence → Bool) (p : Matrix) (ps : List Matrix) → InsideEach c (p ∷ ps) → (i : ℕ) → i < n
      → passing test (p ∷ ps) i ≈ weigh n (p i) (passing (λ ks. test (i ∷ ks)) ps)
  unfolding sum_sequences along
  passing_more test p ps (also h rest) i l =
      sum_same n (λ k. sum_sequences n (length ps) (λ ks. term (test (i ∷ (k ∷ ks))) (entry_of (p i) k ⊗ along ps (k ∷ ks))))
      (λ k. entry_of (p i) k ⊗ passing (λ ks. test (i ∷ ks)) ps k)
      (λ k m. sym (scaled k m))
    where
      kept : (k : ℕ) → Sequence → Fraction
      kept k ks = term (test (i ∷ (k ∷ ks))) (along ps (k ∷ ks))

      proper : (k : ℕ) → k < n → (ks : Sequence) → SequenceOf n (length ps) ks → Proper (kept k ks)
      proper k m ks w = term_proper (test (i ∷ (k ∷ ks))) (along ps (k ∷ ks)) (along_proper ps rest k m ks w)

      scaled : (k : ℕ) → k < n
          → entry_of (p i) k ⊗ sum_sequences n (length ps) (kept k) ≈ sum_sequences n (length ps) (λ ks. term (test (i ∷ (k ∷ ks))) (entry_of (p i) k ⊗ along ps (k ∷ ks)))
      scaled k m =
          let entry = entry_of (p i) k in
          same_trans (entry ⊗ sum_sequences n (length ps) (kept k)) (sum_sequences n (length ps) (λ ks. entry ⊗ kept k ks))
          (sum_sequences n (length ps) (λ ks. term (test (i ∷ (k ∷ ks))) (entry ⊗ along ps (k ∷ ks))))
          (sequences_proper n (length ps) (λ ks. entry ⊗ kept k ks) (λ ks w. mul-pos (proper_row (h i l)) (proper k m ks w)))
          (sequences_scale n (length ps) entry (kept k) (proper_row (h i l)) (proper k m))
          (sequences_same n (length ps) (λ ks. entry ⊗ kept k ks) (λ ks. term (test (i ∷ (k ∷ ks))) (entry ⊗ along ps (k ∷ ks)))
          (λ ks w. term_scale (test (i ∷ (k ∷ ks))) entry (along ps (k ∷ ks))))

  -- The entries of a row inside sum to 1.
  row_one : (i : ℕ) (q : Row) → Inside n (c.row i) q → sum_fractions n (λ k. entry_of q k ⊗ whole 1) ≈ whole 1
  row_one i q h =
      same_trans (sum_fractions n (λ k. entry_of q k ⊗ whole 1)) (record { num = dot n q.entry (λ k. 1); den = q.over }) (whole 1) (proper_row h)
      (sum_weighed n q.over q.entry (λ k. 1))
      (omega (arith, sum_to_eq n (λ k. q.entry k * 1) q.entry (λ k l. omega arith), h.sums))

  -- So does the mean of what is 1 at every state.
  mean_one : (q : Row) (i : ℕ) → Inside n (c.row i) q → (v : ℕ → Fraction) → ((k : ℕ) → k < n → v k ≈ whole 1) → weigh n q v ≈ whole 1
  mean_one q i h v ones =
      same_trans (weigh n q v) (sum_fractions n (λ k. entry_of q k ⊗ whole 1)) (whole 1) (proper_mean n q (λ k. whole 1) (proper_row h) (λ k l. le_refl 1))
      (sum_same n (λ k. entry_of q k ⊗ v k) (λ k. entry_of q k ⊗ whole 1) (λ k l. mul_same_left (entry_of q k) (v k) (whole 1) (ones k l)))
      (row_one i q h)

  -- All sequences from a state on sum to 1.
  all_one : (ps : List Matrix) → InsideEach c ps → (i : ℕ) → i < n → passing (λ ks. true) ps i ≈ whole 1
  unfolding sum_sequences along
  all_one [] none i l = refl
  all_one (p ∷ ps) (also h rest) i l =
      same_trans (passing (λ ks. true) (p ∷ ps) i) (weigh n (p i) (passing (λ ks. true) ps)) (whole 1)
      (proper_mean n (p i) (passing (λ ks. true) ps) (proper_row (h i l)) (passing_proper (λ ks. true) ps rest))
      (passing_more (λ ks. true) p ps (also h rest) i l)
      (mean_one (p i) i (h i l) (passing (λ ks. true) ps) (all_one ps rest))

  module _ (j : ℕ) where
    -- The chance, with its first state fixed.
    from_state : (ps : List Matrix) (i : ℕ) → i < n → exact_reached n j ps i ≡ passing (holds j) ps i
    unfolding exact_reached sum_sequences begins_at
    from_state ps i l = first_fixed n (length ps) (λ k ks. holds j (k ∷ ks)) (along ps) i l

    -- With one matrix more in front: 1 for state j itself, and otherwise the mean by its row.
    after_first : (b : Bool) (p : Matrix) (ps : List Matrix) → InsideEach c (p ∷ ps) → (i : ℕ) → i < n
        → weigh n (p i) (passing (λ ks. b || holds j ks) ps) ≈ turned_exact (cond b (stay 1) (add 0)) (weigh n (p i) (exact_reached n j ps))
    after_first true p ps (also h rest) i l = mean_one (p i) i (h i l) (passing (λ ks. true) ps) (all_one ps rest)
    after_first false p ps (also h rest) i l =
        subst (λ s. weigh n (p i) (passing (holds j) ps) ≈ s) (sym (zero_add (weigh n (p i) (exact_reached n j ps))))
        (sum_same n (λ k. entry_of (p i) k ⊗ passing (holds j) ps k) (λ k. entry_of (p i) k ⊗ exact_reached n j ps k)
        (λ k m. let e = from_state ps k m in subst (λ x. entry_of (p i) k ⊗ passing (holds j) ps k ≈ entry_of (p i) k ⊗ x) (sym e) refl))

    chance_follows : Follows c (λ i. only_if (eqb i j) 1) (reached_turn 1 j) (exact_reached n j)
    unfolding holds along sum_sequences only_if
    chance_follows =
        record {
          proper = λ ps inside i l. subst Proper (sym (from_state ps i l)) (passing_proper (holds j) ps inside i l);
          start = λ i l. subst (λ x. x ≈ whole (only_if (eqb i j) 1)) (sym (from_state [] i l)) (by (eqb i j));
          more = λ p ps inside i l. subst (λ x. x ≈ turned_exact (reached_turn 1 j i) (weigh n (p i) (exact_reached n j ps))) (sym (from_state (p ∷ ps) i l)) (later p ps inside i l);
        }
      where
        by : (b : Bool) → term (b || false) (whole 1) ≈ whole (only_if b 1)
        by true = refl
        by false = refl

        later : (p : Matrix) (ps : List Matrix) → InsideEach c (p ∷ ps) → (i : ℕ) → i < n
            → passing (holds j) (p ∷ ps) i ≈ turned_exact (reached_turn 1 j i) (weigh n (p i) (exact_reached n j ps))
        later p ps (also h rest) i l =
            let mean = weigh n (p i) (passing (λ ks. eqb i j || holds j ks) ps) in
            same_trans (passing (holds j) (p ∷ ps) i) mean (turned_exact (reached_turn 1 j i) (weigh n (p i) (exact_reached n j ps)))
            (proper_mean n (p i) (passing (λ ks. eqb i j || holds j ks) ps) (proper_row (h i l)) (passing_proper (λ ks. eqb i j || holds j ks) ps rest))
            (passing_more (holds j) p ps (also h rest) i l)
            (after_first (eqb i j) p ps (also h rest) i l)

    -- In parts.
    pub reached_follows : Follows c (share_payoff j) (reached_turn ONE j) (reached_in_parts n j)
    reached_follows = follows_as c (λ i l. only_if_times (eqb i j) 1 ONE) (λ i l. by (eqb i j)) (unit_follows c ONE chance_follows)
      where
        by : (b : Bool) → in_unit ONE (cond b (stay 1) (add 0)) ≡ cond b (stay ONE) (add 0)
        by true = refl
        by false = refl
