-- Laws of a window and of a list with a window in its first cells, for elements of any type.
-- window-length   a window has as many elements as are asked for, where there are enough
-- filled-length   a list keeps its length
-- filled_at       each cell below the count holds its element
-- filled_beyond   every other cell keeps its old content
-- filled-split    a window in two parts is the window in one
use Rattle.std.specs.Prelude.{ℕ, ◌+◌, ◌-◌, ◌≤◌, ◌<◌, ◌≡◌, List, [], ◌++◌, ◌⊎◌, length, take, drop, get_or}
use Rattle.std.proofs.Common.{sym, ap, ◌∙◌, append_assoc, append-nil, inl, inr, arith, length-append, length-take, length-drop, take-append-drop, drop_of_length-le, get_or-append-add, get_or-take, get_or-drop, take-add, drop-drop}
use Rattle.std.proofs.Math.ListN.{get_or-append}
use Rattle.std.proofs.lemmas.List.{drop-append-le}
use Rattle.cells.specs.Window.{window, filled}

module _ {A : Type 0} (first n : ℕ) (xs cells : List A) (enough : n ≤ length xs - first) where
  -- Where xs has n elements from `first` on, the window has n elements.
  pub window-length : length (window first n xs) ≡ n
  window-length = simp (length-take, length-drop) (omega arith)

  -- Where xs has n elements from `first` on and there are at least n cells, the filled list keeps its length.
  pub filled-length : n ≤ length cells → length (filled first n xs cells) ≡ length cells
  filled-length room = simp (length-append, window-length, length-drop) (omega arith)

  -- Where xs has n elements from `first` on, each cell i below n holds element `first` + i.
  pub filled_at : (i : ℕ) (d : A) → i < n → get_or (filled first n xs cells) i d ≡ get_or xs (first + i) d
  filled_at i d h =
      get_or-append (window first n xs) (drop n cells) d i (omega (arith, window-length))
      ∙ get_or-take n (drop first xs) i d h
      ∙ get_or-drop first xs i d

  -- Where xs has n elements from `first` on, each cell from n on keeps its old content.
  pub filled_beyond : (i : ℕ) (d : A) → n ≤ i → get_or (filled first n xs cells) i d ≡ get_or cells i d
  filled_beyond i d h =
      let w = window first n xs in
      ap (λ (k : ℕ). get_or (w ++ drop n cells) k d) (omega (arith, window-length))
      ∙ get_or-append-add w (drop n cells) (i - n) d
      ∙ get_or-drop n cells (i - n) d
      ∙ ap (λ (k : ℕ). get_or cells k d) (omega arith)

-- A window in two parts is the window in one, where the first part is full or the second empty.
pub filled-split : {A : Type 0} (first a n m k : ℕ) (xs cells : List A) → n ≡ m + k → m ≤ a → a ≤ length cells → (m ≡ a) ⊎ (k ≡ 0)
    → filled first n xs cells ≡ filled first m xs (take a cells) ++ filled (first + a) k xs (drop a cells)
filled-split first a n m k xs cells en hm ha (inl e) =
    let none : drop a (take a cells) ≡ [] = drop_of_length-le (take a cells) {i = a} (omega (arith, length-take a cells)) in
    rw (en, e, none, append-nil, take-add a k (drop first xs), drop-drop a first xs, drop-drop k a cells, append_assoc)
filled-split first a n m k xs cells en hm ha (inr e) =
    let whole : n ≡ m = omega arith in
    let rest : drop m cells ≡ drop m (take a cells) ++ drop a cells = ap (drop m) (sym (take-append-drop a cells)) ∙ drop-append-le m (take a cells) (drop a cells) (omega (arith, length-take a cells)) in
    rw (whole, e, append_assoc) (ap (λ r. window first m xs ++ r) rest)
