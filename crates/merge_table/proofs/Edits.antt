-- What the loops over changes keep.
use Rattle.std.proofs.Common.{◌≡◌, ◌+◌, ◌<◌, ◌∙◌, ℕ, true, List, [], ◌∷◌, suc, ◌++◌, length, take, drop, get_or, slice_index_or, refl, ap, sym, add-one, arith, IsTrue}
use Rattle.std.specs.declared.cmp.Ordering.{Ordering}
use Rattle.std.specs.List.{All}
use Rattle.std.proofs.Math.Seq.{drop-cons, take-suc}
use Rattle.std.proofs.lemmas.List.Elements.{All-append}
use Rattle.merge_table.specs.declared.edit.Edit.{Edit}
use Rattle.merge_table.specs.declared.edit.Edit.TheVariants.{Put, Take}
use Rattle.merge_table.specs.Contents.{Contents, has_room}
use Rattle.merge_table.specs.Edits.{rows_after, rows_after_all, slots_for, slots_for_all, is_ready, IsReady}

-- room is made for the first n changes
pub record Preparing {K V : Type 0} (cmp : K → K → Ordering) (old now : Contents K V) (edits : List (Edit K V)) (n : ℕ) : Type 0 where
  pub rows : now.rows ≡ old.rows
  pub slots : slots_for_all cmp now.slots (drop n edits) ≡ slots_for_all cmp old.slots edits
  pub kept : (key : K) → IsTrue (has_room cmp old.slots key) → IsTrue (has_room cmp now.slots key)
  pub ready : IsReady cmp now.slots (take n edits)
  pub front : now.slots ≡ slots_for_all cmp old.slots (take n edits)

-- the changes before the rest are made
pub record Applying {K V : Type 0} (cmp : K → K → Ordering) (old now : Contents K V) (edits rest : List (Edit K V)) : Type 0 where
  pub rows : rows_after_all cmp now.rows rest ≡ rows_after_all cmp old.rows edits
  pub slots : now.slots ≡ old.slots
  pub ready : IsReady cmp now.slots rest

-- a change stays ready as room grows
ready_kept : {K V : Type 0} (cmp : K → K → Ordering) (old now : List K) (edit : Edit K V) → ((key : K) → IsTrue (has_room cmp old key) → IsTrue (has_room cmp now key))
    → is_ready cmp old edit ≡ true → is_ready cmp now edit ≡ true
ready_kept cmp old now (Put key row) kept h = kept key h
ready_kept cmp old now (Take key) kept h = refl

pub IsReady-kept : {K V : Type 0} (cmp : K → K → Ordering) (old now : List K) (edits : List (Edit K V)) → ((key : K) → IsTrue (has_room cmp old key) → IsTrue (has_room cmp now key))
    → IsReady cmp old edits → IsReady cmp now edits
unfolding IsReady
IsReady-kept cmp old now edits kept h = λ k d less. ready_kept cmp old now _ kept (h k d less)

IsReady-one : {K V : Type 0} (cmp : K → K → Ordering) (slots : List K) (edit : Edit K V) → is_ready cmp slots edit ≡ true → All (λ e. is_ready cmp slots e ≡ true) (edit ∷ [])
IsReady-one cmp slots edit h = grind arith

slots_for_all-more : {K V : Type 0} (cmp : K → K → Ordering) (slots : List K) (edits : List (Edit K V)) (edit : Edit K V) → slots_for_all cmp slots (edits ++ (edit ∷ [])) ≡ slots_for cmp (slots_for_all cmp slots edits) edit
slots_for_all-more cmp slots [] edit = refl
slots_for_all-more cmp slots (first ∷ edits) edit = slots_for_all-more cmp (slots_for cmp slots first) edits edit

pub preparing_next : {K V : Type 0} (cmp : K → K → Ordering) (old now next : Contents K V) (edits : List (Edit K V)) (n : ℕ) (edit : Edit K V)
    → n < length edits → edit ≡ get_or edits n edit → Preparing cmp old now edits n
    → next.rows ≡ now.rows → next.slots ≡ slots_for cmp now.slots edit → is_ready cmp next.slots edit ≡ true
    → ((key : K) → IsTrue (has_room cmp now.slots key) → IsTrue (has_room cmp next.slots key))
    → Preparing cmp old next edits (n + 1)
unfolding IsReady
preparing_next cmp old now next edits n edit less is h rows slots ready kept =
    let more : take (suc n) edits ≡ take n edits ++ (edit ∷ []) = take-suc edits n edit less ∙ ap (λ e. take n edits ++ (e ∷ [])) (sym is) in
    rw add-one (record {
      rows = rows ∙ h.rows;
      slots = ap (λ s. slots_for_all cmp s (drop (suc n) edits)) slots ∙ ap (λ e. slots_for_all cmp (slots_for cmp now.slots e) (drop (suc n) edits)) is ∙ ap (slots_for_all cmp now.slots) (sym (drop-cons edits n edit less)) ∙ h.slots;
      kept = λ key had. kept key (h.kept key had);
      ready = rw (take-suc edits n edit less, ← is) (All-append (λ e. is_ready cmp next.slots e ≡ true) _ _ (IsReady-kept cmp now.slots next.slots (take n edits) kept h.ready) (IsReady-one cmp next.slots edit ready));
      front = slots ∙ ap (λ s. slots_for cmp s edit) h.front ∙ sym (slots_for_all-more cmp old.slots (take n edits) edit) ∙ ap (slots_for_all cmp old.slots) (sym more);
    })

pub applying_next : {K V : Type 0} (cmp : K → K → Ordering) (old now next : Contents K V) (edits : List (Edit K V)) (edit : Edit K V) (rest left : List (Edit K V))
    → left ≡ edit ∷ rest → Applying cmp old now edits left → next.rows ≡ rows_after cmp now.rows edit → next.slots ≡ now.slots → Applying cmp old next edits rest
unfolding IsReady
applying_next cmp old now next edits edit rest left is h rows slots =
    let g : Applying cmp old now edits (edit ∷ rest) = rw is at h in
    record {
      rows = rw rows g.rows;
      slots = slots ∙ g.slots;
      ready = λ k d less. ap (λ s. is_ready cmp s (slice_index_or rest k d)) slots ∙ g.ready (suc k) d (omega arith);
    }
