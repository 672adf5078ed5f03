-- What the watermarks say is kept as a site goes on, as a letter is posted, and as the publisher's states of the sites change.
use Rattle.std.specs.Prelude.{◌≡◌, ◌≤◌, ◌==◌, ◌++◌, ℕ, List, [], ◌∷◌, Bool, true, false, Option, Some, None, refl, IfSome, unwrap_or, cond, map}
use Rattle.std.specs.BTreeMap.{is_at}
use Rattle.std.specs.Ordering.{nat_cmp}
use Rattle.std.proofs.Common.{arith, subst, sym, ap, ◌∙◌}
use Rattle.merge_types.specs.declared.identifiers.SiteId.{SiteId}
use Rattle.merge_gens.specs.declared.sites.SiteState.{SiteState}
use Rattle.merge_batch.specs.declared.request.Download.{Download}
use Rattle.merge_batch.specs.declared.request.Request.TheVariants as request
use Rattle.merge_model.specs.Tables.{SubscriberTables}
use Rattle.merge_model.specs.Tables.Keys.{at_number, put_number}
use Rattle.merge_model.specs.Publisher.{no_state}
use Rattle.merge_model.specs.declared.letter.Letter.{Letter}
use Rattle.merge_model.specs.declared.letter.Message.{Message}
use Rattle.merge_model.specs.declared.letter.Message.TheVariants.{Asks, Replies}
use Rattle.merge_laws.specs.Facts.Watermarks.{AskHolds, LetterHolds, MessageHolds, StateHolds, Watermarks, state_in}
use Rattle.merge_model.proofs.Lists.Finding.{all-more, all-weaker, at_put_same, at_put_other}
use Rattle.merge_laws.proofs.Received.Subscribing.{same_number, number-decided}
use Rattle.merge_laws.proofs.Purges.PurgeLists.{if-put, if-weaker}

-- a message, where an ask says no more than before
message-goes : (joined after : ℕ) (site : SiteId) (found there : Option SubscriberTables) → ((m : Download) → IfSome found (AskHolds joined m) → IfSome there (AskHolds after m))
    → (message : Message) → MessageHolds joined site found message → MessageHolds after site there message
message-goes joined after site found there goes (Asks (request.Download m)) fits = (fits.0, goes m fits.1)
message-goes joined after site found there goes (Asks (request.Join m)) fits = tt
message-goes joined after site found there goes (Asks (request.Upload m)) fits = tt
message-goes joined after site found there goes (Asks (request.Ranges m)) fits = tt
message-goes joined after site found there goes (Replies m) fits = tt

-- A site goes on.

abbrev pub Moves : SiteState → SubscriberTables → SubscriberTables → Type 0
Moves state s t = (t.site ≡ s.site) × StateHolds state t × ((m : Download) → AskHolds state.joined_at m s → AskHolds state.joined_at m t)

letter-at : (subscribers : List (ℕ × SubscriberTables)) (states : List (ℕ × SiteState)) (n : ℕ) (s t : SubscriberTables) (letter : Letter) (b : Bool) → same_number letter.site.0 n b → at_number subscribers n ≡ Some s
    → ((m : Download) → AskHolds (state_in states n).joined_at m s → AskHolds (state_in states n).joined_at m t) → LetterHolds subscribers states letter → LetterHolds (put_number subscribers n t) states letter
letter-at subscribers states n s t letter true same at goes fits =
    let found : at_number subscribers letter.site.0 ≡ Some s = ap (λ (k : ℕ). at_number subscribers k) same ∙ at in
    let put : at_number (put_number subscribers n t) letter.site.0 ≡ Some t = ap (λ (k : ℕ). at_number (put_number subscribers n t) k) same ∙ at_put_same n t subscribers in
    let was : MessageHolds (state_in states n).joined_at letter.site (Some s) letter.message =
    subst (λ (k : ℕ). MessageHolds (state_in states k).joined_at letter.site (Some s) letter.message) same
    (subst (λ (o : Option SubscriberTables). MessageHolds (state_in states letter.site.0).joined_at letter.site o letter.message) found fits) in
    let is : MessageHolds (state_in states n).joined_at letter.site (Some t) letter.message =
    message-goes (state_in states n).joined_at (state_in states n).joined_at letter.site (Some s) (Some t) goes letter.message was in
    subst (λ (o : Option SubscriberTables). MessageHolds (state_in states letter.site.0).joined_at letter.site o letter.message) (sym put)
    (subst (λ (k : ℕ). MessageHolds (state_in states k).joined_at letter.site (Some t) letter.message) (sym same) is)
letter-at subscribers states n s t letter false differs at goes fits =
    subst (λ (o : Option SubscriberTables). MessageHolds (state_in states letter.site.0).joined_at letter.site o letter.message) (sym (at_put_other n letter.site.0 t subscribers differs)) fits

pub site-moves : (subscribers : List (ℕ × SubscriberTables)) (states : List (ℕ × SiteState)) (pool : List Letter) (n : ℕ) (s t : SubscriberTables) → at_number subscribers n ≡ Some s → s.site.0 ≡ n → Moves (state_in states n) s t
    → Watermarks subscribers states pool → Watermarks (put_number subscribers t.site.0 t) states pool
site-moves subscribers states pool n s t at keyed moves w =
    let here : t.site.0 ≡ n = ap (λ (x : SiteId). x.0) moves.0 ∙ keyed in
    let put : Watermarks (put_number subscribers n t) states pool = record {
      sites = if-put (λ (k : ℕ) (u : SubscriberTables). StateHolds (state_in states k) u) n t subscribers moves.1 (λ k differs. w.sites k);
      letters = all-weaker (LetterHolds subscribers states) (LetterHolds (put_number subscribers n t) states)
          (λ letter fits. letter-at subscribers states n s t letter (letter.site.0 == n) (number-decided letter.site.0 n) at moves.2 fits) pool w.letters;
    } in
    subst (λ (k : ℕ). Watermarks (put_number subscribers k t) states pool) (sym here) put

-- A letter more.
pub letter-more : (subscribers : List (ℕ × SubscriberTables)) (states : List (ℕ × SiteState)) (pool : List Letter) (letter : Letter) → LetterHolds subscribers states letter → Watermarks subscribers states pool → Watermarks subscribers states (pool ++ letter ∷ [])
letter-more subscribers states pool letter fits w = record { sites = w.sites; letters = all-more (LetterHolds subscribers states) pool letter w.letters fits }

if-found : (P Q : SubscriberTables → Type 0) (o found : Option SubscriberTables) → o ≡ found → ((s : SubscriberTables) → o ≡ Some s → P s → Q s) → IfSome found P → IfSome found Q
if-found P Q o None is each all = tt
if-found P Q o (Some s) is each all = each s is all

-- The publisher has other states of the sites: of each site it keeps what its watermark says, and its last join that acted is none before.
pub states-move : (subscribers : List (ℕ × SubscriberTables)) (states after : List (ℕ × SiteState)) (pool : List Letter)
    → ((n : ℕ) (s : SubscriberTables) → at_number subscribers n ≡ Some s → StateHolds (state_in states n) s → StateHolds (state_in after n) s) → ((n : ℕ) → (state_in states n).joined_at ≤ (state_in after n).joined_at)
    → Watermarks subscribers states pool → Watermarks subscribers after pool
states-move subscribers states after pool goes rises w = record {
  sites = λ n. if-found (StateHolds (state_in states n)) (StateHolds (state_in after n)) (at_number subscribers n) (at_number subscribers n) refl (λ s at f. goes n s at f) (w.sites n);
  letters = all-weaker (LetterHolds subscribers states) (LetterHolds subscribers after)
      (λ letter fits. message-goes (state_in states letter.site.0).joined_at (state_in after letter.site.0).joined_at letter.site (at_number subscribers letter.site.0) (at_number subscribers letter.site.0)
      (λ m asks. if-weaker (AskHolds (state_in states letter.site.0).joined_at m) (AskHolds (state_in after letter.site.0).joined_at m)
      (λ s f. record { made = f.made; low = λ later joins. f.low (omega (arith, later, rises letter.site.0)) joins }) (at_number subscribers letter.site.0) asks) letter.message fits) pool w.letters;
}

-- What a state says after each of the states was gone over.
state-head : (field : SiteState → ℕ) (x y : SiteState) (rest more : Option SiteState) (b : Bool) → field y ≡ field x → field (unwrap_or more no_state) ≡ field (unwrap_or rest no_state)
    → field (unwrap_or (cond b (Some y) more) no_state) ≡ field (unwrap_or (cond b (Some x) rest) no_state)
state-head field x y rest more true first second = first
state-head field x y rest more false first second = second

pub state-map : (field : SiteState → ℕ) (f : ℕ × SiteState → ℕ × SiteState) → ((e : ℕ × SiteState) → (f e).0 ≡ e.0) → ((e : ℕ × SiteState) → field (f e).1 ≡ field e.1) → (n : ℕ) (es : List (ℕ × SiteState)) → field (state_in (map f es) n) ≡ field (state_in es n)
state-map field f same keeps n [] = refl
state-map field f same keeps n (e ∷ es) =
    subst (λ (k : ℕ). (let found : Option SiteState = cond (is_at (nat_cmp n) k) (Some (f e).1) (at_number (map f es) n) in field (unwrap_or found no_state)) ≡ field (state_in (e ∷ es) n)) (sym (same e))
    (state-head field e.1 (f e).1 (at_number es n) (at_number (map f es) n) (is_at (nat_cmp n) e.0) (keeps e) (state-map field f same keeps n es))

-- and after one was put
pub state-put : (Q : ℕ → SiteState → Type 0) (states : List (ℕ × SiteState)) (site : ℕ) (state : SiteState) → Q site state → ((n : ℕ) → (n ≡ site → ⊥) → Q n (state_in states n)) → (n : ℕ) (b : Bool) → same_number n site b → Q n (state_in (put_number states site state) n)
state-put Q states site state here all n true same = subst (λ (k : ℕ). Q k (state_in (put_number states site state) k)) (sym same)
    (subst (λ (o : Option SiteState). Q site (unwrap_or o no_state)) (sym (at_put_same site state states)) here)
state-put Q states site state here all n false differs = subst (λ (o : Option SiteState). Q n (unwrap_or o no_state)) (sym (at_put_other site n state states differs)) (all n differs)
