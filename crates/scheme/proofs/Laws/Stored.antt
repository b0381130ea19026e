-- Arrays filled entry by entry, with 0 beyond what is filled; and a scheme made from its values: what it holds up to s and m, when two of them are equal, and that it holds 0 beyond.
use Rattle.std.specs.Prelude.{ℕ, ◌+◌, ◌*◌, ◌/◌, ◌%◌, ◌≤◌, ◌<◌, ◌≡◌, refl, List, ◌⊎◌, length, get_or, set, replicate}
use Rattle.std.proofs.Common.{ap, sym, ◌∙◌, inl, inr, ⊎_elim, arith, length-set, get_or-set_same, get_or-set_other, lt-ltb, le-ltb}
use Rattle.std.proofs.Math.Decide.{ℕ_discrete, dec_lt}
use Rattle.std.proofs.lemmas.List.{length-replicate, get_or-replicate}
use Rattle.scheme.specs.declared.Scheme.{Scheme}
use Rattle.scheme.specs.Tables.{tab}
use Rattle.scheme.specs.Access.{CELL_STRIDE, CELL_PLACES, rule_at, lower_at, upper_at, premium_at, BAND_PLACES}
use Rattle.scheme.specs.Stored.{up_to, rules_up_to, bands_up_to, scheme_of, cleared, no_scheme}
use Rattle.scheme.proofs.Laws.Tab.{length_tab, get_d_tab, as_tab, tab_eq}

-- One of two orders holds.
pub split : (a b : ℕ) → (a < b) ⊎ (b ≤ a)
split a b = by (dec_lt a b)
  where
    by : Dec (a < b) → (a < b) ⊎ (b ≤ a)
    by (yes h) = inl h
    by (no h) = inr (omega arith)

pub up_to_below : (n : ℕ) (f : ℕ → ℕ) (k : ℕ) → k < n → up_to n f k ≡ f k
unfolding up_to
up_to_below n f k h = rw (lt-ltb k n h)

pub up_to_past : (n : ℕ) (f : ℕ → ℕ) (k : ℕ) → n ≤ k → up_to n f k ≡ 0
unfolding up_to
up_to_past n f k h = rw (le-ltb k n h)

pub up_to_eq : (n : ℕ) (f g : ℕ → ℕ) (k : ℕ) → (k < n → f k ≡ g k) → up_to n f k ≡ up_to n g k
up_to_eq n f g k h =
    ⊎_elim (λ lt. up_to_below n f k lt ∙ h lt ∙ sym (up_to_below n g k lt)) (λ le. up_to_past n f k le ∙ sym (up_to_past n g k le)) (split k n)

-- An array filled up to n holds its entries.
pub stored_at : (size n : ℕ) (f : ℕ → ℕ) (k : ℕ) → k < size → k < n → get_or (tab size (up_to n f)) k 0 ≡ f k
stored_at size n f k fits lt = get_d_tab size (up_to n f) k 0 fits ∙ up_to_below n f k lt

-- An array of 0 has none of its entries filled.
pub stored_none : (n : ℕ) (f : ℕ → ℕ) → replicate n 0 ≡ tab n (up_to 0 f)
stored_none n f =
    as_tab 0 (replicate n 0) n (up_to 0 f) (length-replicate n 0) (λ k lt. get_or-replicate n k 0 0 lt ∙ sym (up_to_past 0 f k (omega arith)))

-- One more entry.
pub stored_more : (n k : ℕ) (f : ℕ → ℕ) (l : List ℕ) (x : ℕ) → k < n → l ≡ tab n (up_to k f) → x ≡ f k → set l k x ≡ tab n (up_to (k + 1) f)
stored_more n k f l x lt filled e = as_tab 0 (set l k x) n (up_to (k + 1) f) (length-set l k x ∙ size) (λ j jn. entry j jn (ℕ_discrete j k))
  where
    size : length l ≡ n
    size = ap length filled ∙ length_tab n (up_to k f)

    was : (j : ℕ) → j < n → get_or l j 0 ≡ up_to k f j
    was j jn = ap (λ a. get_or a j 0) filled ∙ get_d_tab n (up_to k f) j 0 jn

    entry : (j : ℕ) → j < n → Dec (j ≡ k) → get_or (set l k x) j 0 ≡ up_to (k + 1) f j
    entry j jn (yes same) =
        rw same (get_or-set_same l k x 0 (omega (arith, size)) ∙ e ∙ sym (up_to_below (k + 1) f k (omega arith)))
    entry j jn (no other) =
        get_or-set_other l k j x 0 other ∙ was j jn
        ∙ ⊎_elim (λ below. up_to_below k f j below ∙ sym (up_to_below (k + 1) f j (omega arith)))
        (λ past. up_to_past k f j past ∙ sym (up_to_past (k + 1) f j (omega arith)))
        (split j k)

pub rule_stored : (s m : ℕ) (rule : ℕ → ℕ → ℕ) (i k : ℕ) → i < 32 → k < 8 → i < s → k < m
    → get_or (tab CELL_PLACES (rules_up_to s m rule)) (i * CELL_STRIDE + k) 0 ≡ rule i k
rule_stored s m rule i k most few is ks =
    let q : ℕ = i * CELL_STRIDE + k in
    let class : q / CELL_STRIDE ≡ i = omega arith in
    let column : q % CELL_STRIDE ≡ k = omega arith in
    get_d_tab CELL_PLACES (rules_up_to s m rule) q 0 (omega arith)
    ∙ rw (class, column) (up_to_below s (λ j. up_to m (rule j) k) i is ∙ up_to_below m (rule i) k ks)

-- Filled again with what it holds, it is the same array.
stored_again : (size n : ℕ) (f : ℕ → ℕ) → tab size (up_to n (λ k. get_or (tab size (up_to n f)) k 0)) ≡ tab size (up_to n f)
stored_again size n f = tab_eq 0 size _ _ (λ k fits. up_to_eq n _ f k (λ lt. stored_at size n f k fits lt))

rules_again : (s m : ℕ) (rule : ℕ → ℕ → ℕ)
    → tab CELL_PLACES (rules_up_to s m (λ i k. get_or (tab CELL_PLACES (rules_up_to s m rule)) (i * CELL_STRIDE + k) 0)) ≡ tab CELL_PLACES (rules_up_to s m rule)
rules_again s m rule =
    tab_eq 0 CELL_PLACES _ _
    (λ q fits.
    up_to_eq s _ _ (q / CELL_STRIDE)
    (λ is. up_to_eq m _ (rule (q / CELL_STRIDE)) (q % CELL_STRIDE) (λ ks. rule_stored s m rule (q / CELL_STRIDE) (q % CELL_STRIDE) (omega arith) (omega arith) is ks)))

-- The values of a made scheme.
module _ (s m start horizon : ℕ) (rule lower upper : ℕ → ℕ → ℕ) (premium : ℕ → ℕ) where
  abbrev made : Scheme
  made = scheme_of s m start horizon rule lower upper premium

  pub rule_made : (i k : ℕ) → s ≤ 32 → m ≤ 8 → i < s → k < m → rule_at made i k ≡ rule i k
  unfolding scheme_of
  rule_made i k most few is ks = rule_stored s m rule i k (omega arith) (omega arith) is ks

  pub lower_made : (i k : ℕ) → m ≤ 8 → k < m → lower_at made i k ≡ lower 0 k
  unfolding scheme_of
  lower_made i k few ks = stored_at BAND_PLACES m (lower 0) k (omega arith) ks

  pub upper_made : (i k : ℕ) → m ≤ 8 → k < m → upper_at made i k ≡ upper 0 k
  unfolding scheme_of
  upper_made i k few ks = stored_at BAND_PLACES m (upper 0) k (omega arith) ks

  pub premium_made : (i : ℕ) → s ≤ 32 → i < s → premium_at made i ≡ premium i
  unfolding scheme_of
  premium_made i most is = stored_at 32 s premium i (omega arith) is

  -- "every operation that makes a scheme sets them to 0".
  pub made_cleared : cleared made ≡ made
  unfolding scheme_of
  made_cleared = rw (rules_again s m rule, stored_again BAND_PLACES m (lower 0), stored_again BAND_PLACES m (upper 0), stored_again 32 s premium)

  -- Schemes made from values that are equal up to s and m are equal.
  pub made_eq : (rule' lower' upper' : ℕ → ℕ → ℕ) (premium' : ℕ → ℕ) → 0 < s
      → ((i k : ℕ) → i < s → k < m → rule i k ≡ rule' i k)
      → ((i k : ℕ) → i < s → k < m → lower i k ≡ lower' i k)
      → ((i k : ℕ) → i < s → k < m → upper i k ≡ upper' i k)
      → ((i : ℕ) → i < s → premium i ≡ premium' i)
      → made ≡ scheme_of s m start horizon rule' lower' upper' premium'
  unfolding scheme_of
  made_eq rule' lower' upper' premium' some er el eu ep =
      let rules : tab CELL_PLACES (rules_up_to s m rule) ≡ tab CELL_PLACES (rules_up_to s m rule') =
      tab_eq 0 CELL_PLACES _ _ (λ q lt. up_to_eq s _ _ (q / CELL_STRIDE) (λ is. up_to_eq m _ _ (q % CELL_STRIDE) (λ ks. er (q / CELL_STRIDE) (q % CELL_STRIDE) is ks)))
      in
      let lowers : tab BAND_PLACES (bands_up_to m lower) ≡ tab BAND_PLACES (bands_up_to m lower') = tab_eq 0 BAND_PLACES _ _ (λ k lt. up_to_eq m _ _ k (el 0 k some)) in
      let uppers : tab BAND_PLACES (bands_up_to m upper) ≡ tab BAND_PLACES (bands_up_to m upper') = tab_eq 0 BAND_PLACES _ _ (λ k lt. up_to_eq m _ _ k (eu 0 k some)) in
      let premiums : tab 32 (up_to s premium) ≡ tab 32 (up_to s premium') = tab_eq 0 32 _ _ (λ i lt. up_to_eq s _ _ i (ep i)) in
      rw (rules, lowers, uppers, premiums)

-- And a scheme of 0 beside a refusal's number has 0 there too.
pub none_cleared : cleared no_scheme ≡ no_scheme
unfolding no_scheme scheme_of up_to tab
none_cleared = refl
