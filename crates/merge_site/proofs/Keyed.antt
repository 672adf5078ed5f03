-- Numbers under which records stand, in lists of another form.
use Rattle.std.proofs.Common.{◌≡◌, ℕ, ◌^◌, ◌<◌, true, List, [], ◌∷◌, map}
use Rattle.std.specs.List.{AllByRecursion}
use Rattle.merge_ident.specs.Holders.{Holder}
use Rattle.merge_keeper.specs.Encoded.{AllEditKeys, AllKeys}
use Rattle.merge_keeper.specs.Entries.{was_received}
use Rattle.merge_keeper.specs.Stored.{held_put}

-- of members that hold their numbers
pub paired-keys : {X V : Type 0} (P : ℕ → Type 0) (pair : X → ℕ × V) (of : ℕ × V → X) → ((e : ℕ × V) → P e.0 → let again = pair (of e) in P again.0) → (es : List (ℕ × V)) → AllKeys P es → AllKeys P (map pair (map of es))
paired-keys P pair of same [] h = tt
paired-keys P pair of same (e ∷ es) h = (same e h.0, paired-keys P pair of same es h.1)

-- of ranges that are put
pub held-keys : (puts : List (ℕ × Holder)) → AllByRecursion (λ p. (p.0 < 2 ^ 8) × (was_received p ≡ true)) puts → AllEditKeys (λ n. n < 2 ^ 8) (map held_put puts)
held-keys [] h = tt
held-keys (p ∷ puts) h = (h.0.0, held-keys puts h.1)
