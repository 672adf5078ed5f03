-- What the parents of a value give is what one of its children has, where it has nothing else.
use Rattle.std.proofs.Common.{◌≡◌, inl, inr, ℕ, true, List, Option, None, Some, refl, sym, ap, ◌∙◌, subst}
use Rattle.std.specs.Prelude.{IfSome}
use Rattle.merge_types.specs.declared.values.Value.{Value}
use Rattle.merge_types.specs.declared.row_key.RowKey.{RowKey}
use Rattle.merge_schema.proofs.JoinedValues.{same_values_join}
use Rattle.merge_part.specs.declared.sites.Sites.{Sites}
use Rattle.merge_part.specs.declared.content.Content.{Content}
use Rattle.merge_part.specs.declared.link.Link.{Link}
use Rattle.merge_part.specs.Sites.{has_site}
use Rattle.merge_part.specs.Rule.{IsAt, Parent, Reason, Meets, value_at, gives, parent_of, row_gives}
use Rattle.merge_part.specs.Index.{Entries}
use Rattle.merge_part.specs.Settling.{AreGiven}
use Rattle.merge_part.specs.Siblings.{IsOnlyLink, Shows}
use Rattle.merge_part.proofs.Covered.{none_in}
use Rattle.merge_part.proofs.Reasons.{same_link, parent_gives}

-- what holds of a value that there is
pub some_on : {A : Type 0} (found : Option A) (P Q : A → Type 0) → ((x : A) → P x → Q x) → IfSome found P → IfSome found Q
some_on None P Q on holds = tt
some_on (Some x) P Q on holds = on x holds

same_content : (one other : Content) (held : Option Content) → held ≡ Some one → held ≡ Some other → one ≡ other
same_content one other held is_one is_other = cc

pub given_by_sibling : (links : List Link) (entries : Entries) (rows : RowKey → Option Content) (marks : RowKey → Sites) (number : ℕ) (link : Link) (value : Value) (key : RowKey) (sites : Sites)
    → IsAt links number link → IsOnlyLink links number link.child → key.article ≡ link.child → Shows rows marks key link value sites → Meets links rows marks key
    → AreGiven entries rows marks number link value sites
given_by_sibling links entries rows marks number link value key sites at only of shows meets =
    let is : value ≡ value_at shows.content.values link.column = ((same_values_join value (value_at shows.content.values link.column)).0 shows.joined).0 in
    record {
      given = λ place has.
          let why = meets.reason place (ap (λ s. has_site s place) (sym shows.marked) ∙ has) in
          let reason : Reason links rows marks key shows.content place = subst (λ x. Reason links rows marks key x place) (same_content why.0 shows.content (rows key) why.1 shows.live) why.2 in
          elim reason [
            | inl filtered ↦ absurd (none_in shows.content.filtered shows.unfiltered place filtered)
            | inr p ↦
                let here : IsAt links number p.link = subst (λ n. IsAt links n p.link) (only p.number p.link p.among (p.below ∙ of)) p.among in
                let same : p.link ≡ link = same_link links number p.link link here at in (
                  p.parent.row,
                  subst (λ v. row_gives rows marks v link place p.parent.row ≡ true) (sym is)
                      (subst (λ (l : Link). row_gives rows marks (value_at shows.content.values l.column) l place p.parent.row ≡ true) same (parent_gives links rows marks key shows.content place p)),
                )
          ];
      all = λ place row entry given.
          let p : Parent links rows marks key shows.content place = record {
            number = number;
            link = link;
            parent = parent_of link row;
            among = at;
            below = sym of;
            above = refl;
            given = subst (λ v. gives v link (rows (parent_of link row)) (marks (parent_of link row)) place ≡ true) is given;
          } in
          ap (λ s. has_site s place) shows.marked ∙ meets.reached place shows.content shows.live (inr p);
    }
