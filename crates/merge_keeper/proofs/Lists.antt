-- Two entries may be put in either order.
use Rattle.std.proofs.Common.{◌≡◌, ◌∙◌, List, [], ◌∷◌, refl, sym, ap}
use Rattle.std.specs.declared.cmp.Ordering.{Ordering}
use Rattle.std.specs.declared.cmp.Ordering.TheVariants.{Less, Equal, Greater}
use Rattle.std.specs.Ordering.{ordering_reverse}
use Rattle.std.specs.Cmp.{IsTotalOrder}
use Rattle.std.specs.BTreeMap.{insert_entry}

module _ {L : Type 0} (cmp : L → L → Ordering) (o : IsTotalOrder cmp) where
  flipped : (k l : L) (r : Ordering) → cmp k l ≡ r → cmp l k ≡ ordering_reverse r
  flipped k l r e = o.antisymm l k ∙ ap ordering_reverse e

  above_less : (k l a : L) → cmp k a ≡ Less → cmp l a ≡ Equal → cmp l k ≡ Greater
  above_less k l a e f = o.congr l a k f ∙ flipped k a Less e

  above_both : (k l a : L) → cmp k a ≡ Less → cmp l a ≡ Greater → cmp l k ≡ Greater
  above_both k l a e f = flipped k l Less (o.trans k a l e (flipped l a Greater f))

module _ {L W : Type 0} (cmp : L → L → Ordering) (o : IsTotalOrder cmp) where
  abbrev Swaps : L → L → W → W → List (L × W) → Type 0
  Swaps k l v w es = insert_entry cmp (insert_entry cmp es k v) l w ≡ insert_entry cmp (insert_entry cmp es l w) k v

  both_below : (k l a : L) (v w x : W) (es : List (L × W)) → (cmp k l ≡ Equal → Less ≡ Equal) → cmp k a ≡ Less → cmp l a ≡ Less → (r : Ordering) → cmp k l ≡ r → Swaps k l v w ((a, x) ∷ es)
  both_below k l a v w x es apart e f Less g = simp (e, f, flipped cmp o k l Less g, g)
  both_below k l a v w x es apart e f Equal g = let no = apart g in absurd cc
  both_below k l a v w x es apart e f Greater g = simp (e, f, flipped cmp o k l Greater g, g)

  below_equal : (k l a : L) (v w x : W) (es : List (L × W)) → cmp k a ≡ Less → cmp l a ≡ Equal → Swaps k l v w ((a, x) ∷ es)
  below_equal k l a v w x es e f = simp (e, f, above_less cmp o k l a e f)

  below_above : (k l a : L) (v w x : W) (es : List (L × W)) → cmp k a ≡ Less → cmp l a ≡ Greater → Swaps k l v w ((a, x) ∷ es)
  below_above k l a v w x es e f = simp (e, f, above_both cmp o k l a e f)

  swap_step : (k l a : L) (v w x : W) (es : List (L × W)) → (cmp k l ≡ Equal → Less ≡ Equal) → Swaps k l v w es → (p q : Ordering) → cmp k a ≡ p → cmp l a ≡ q → Swaps k l v w ((a, x) ∷ es)
  swap_step k l a v w x es apart ih Less Less e f = both_below k l a v w x es apart e f (cmp k l) refl
  swap_step k l a v w x es apart ih Less Equal e f = below_equal k l a v w x es e f
  swap_step k l a v w x es apart ih Less Greater e f = below_above k l a v w x es e f
  swap_step k l a v w x es apart ih Equal Less e f = sym (below_equal l k a w v x es f e)
  swap_step k l a v w x es apart ih Equal Equal e f = let no = apart (o.congr k a l e ∙ flipped cmp o l a Equal f) in absurd cc
  swap_step k l a v w x es apart ih Equal Greater e f = simp (e, f)
  swap_step k l a v w x es apart ih Greater Less e f = sym (below_above l k a w v x es f e)
  swap_step k l a v w x es apart ih Greater Equal e f = simp (e, f)
  swap_step k l a v w x es apart ih Greater Greater e f = simp (e, f) (ap (λ l. (a, x) ∷ l) ih)

  swap_none : (k l : L) (v w : W) → (cmp k l ≡ Equal → Less ≡ Equal) → (r : Ordering) → cmp k l ≡ r → Swaps k l v w []
  swap_none k l v w apart Less g = rw (flipped cmp o k l Less g, g) refl
  swap_none k l v w apart Equal g = let no = apart g in absurd cc
  swap_none k l v w apart Greater g = rw (flipped cmp o k l Greater g, g) refl

  -- two values at keys that are not equal may be put in either order
  pub insert_swap : (k l : L) (v w : W) → (cmp k l ≡ Equal → Less ≡ Equal) → (es : List (L × W)) → Swaps k l v w es
  insert_swap k l v w apart [] = swap_none k l v w apart (cmp k l) refl
  insert_swap k l v w apart ((a, x) ∷ es) = swap_step k l a v w x es apart (insert_swap k l v w apart es) (cmp k a) (cmp l a) refl refl
