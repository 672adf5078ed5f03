-- What is held of articles before a range was received, one article after the other.
use Rattle.std.specs.Prelude.{◌≡◌, ◌+◌, ◌++◌, ℕ, List, [], ◌∷◌, None, Option, Some, drop}
use Rattle.std.proofs.Common.{ap, sym, ◌∙◌}
use Rattle.std.proofs.lemmas.List.{append_assoc}
use Rattle.merge_ident.specs.Holders.{Holder, new_holder}
use Rattle.merge_schema.specs.declared.publication.Article.{Article}
use Rattle.merge_schema.specs.declared.publication.Identity.{Identity}
use Rattle.merge_sub.specs.Begin.{holders_from}
use Rattle.merge_sub.proofs.Begun.{Beginning, holders-step, with_article}

module _ (articles : List Article) (held : List (ℕ × Holder)) (place : ℕ) (article : Article) where
  abbrev IsNext : Type 0
  IsNext = drop place articles ≡ article ∷ drop (place + 1) articles

  stepped : (identity : Option Identity) → article.identity ≡ identity → IsNext → Beginning articles held place → held ++ with_article place identity (holders_from (place + 1) (drop (place + 1) articles)) ≡ holders_from 0 articles
  stepped identity is next so_far =
      ap (λ (more : List (ℕ × Holder)). held ++ more) (sym (ap (holders_from place) next ∙ holders-step place article (drop (place + 1) articles) identity is)) ∙ so_far

  -- of an article without an identity column none is held
  pub none-held : article.identity ≡ None → IsNext → Beginning articles held place → Beginning articles held (place + 1)
  none-held is next so_far = stepped None is next so_far

  pub some-held : (identity : Identity) → article.identity ≡ Some identity → IsNext → Beginning articles held place → Beginning articles (held ++ (place, new_holder identity.threshold) ∷ []) (place + 1)
  some-held identity is next so_far =
      append_assoc held ((place, new_holder identity.threshold) ∷ []) (holders_from (place + 1) (drop (place + 1) articles)) ∙ stepped (Some identity) is next so_far
