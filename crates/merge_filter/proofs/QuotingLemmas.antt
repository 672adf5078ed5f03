-- A body has these bytes exactly where the bytes, quoted, are the body behind an opening quote.
use Rattle.std.proofs.Common.{◌≡◌, ℕ, Bool, true, false, eqb, List, [], ◌∷◌, ◌++◌, Option, Some, None, option_map, option_and_then, refl, sym, ap, ◌∙◌, cond, subst}
use Rattle.std.proofs.lemmas.Bool.{eqb-true}
use Rattle.std.specs.List.{flat_map}
use Rattle.std.specs.Prelude.{MatchOption}
use Rattle.std.specs.Str.{IsUtf8}
use Rattle.merge_filter.specs.declared.kind.Kind.TheVariants as kinds
use Rattle.merge_filter.specs.declared.word.Word.{Word}
use Rattle.merge_filter.specs.Quoting.{content_of, quoted_content}
use Rattle.merge_filter.specs.Words.{byte_in_quotes, text_in_quotes, IsTextWord, Spells}

abbrev some : List ℕ → Option (List ℕ)
some bytes = Some bytes

abbrev none : Option (List ℕ)
none = None

abbrev put : ℕ → Option (List ℕ) → Option (List ℕ)
put c o = option_map (λ bytes. c ∷ bytes) o

-- a byte that is no quote
plain_step : (c : ℕ) (cs : List ℕ) → eqb c 39 ≡ false → content_of (c ∷ cs) ≡ put c (content_of cs)
plain_step c [] e = rw e refl
plain_step c (d ∷ cs) e = rw e refl

pub content_reads : (bytes : List ℕ) → content_of (flat_map byte_in_quotes bytes ++ 39 ∷ []) ≡ Some bytes
content_reads [] = refl
content_reads (b ∷ bytes) = by (eqb b 39) refl (content_reads bytes)
  where
    by : (t : Bool) → eqb b 39 ≡ t → content_of (flat_map byte_in_quotes bytes ++ 39 ∷ []) ≡ Some bytes → content_of ((byte_in_quotes b ++ flat_map byte_in_quotes bytes) ++ 39 ∷ []) ≡ Some (b ∷ bytes)
    by true e ih = let same : b ≡ 39 = eqb-true b 39 e in rw (e, ih) (ap (λ (n : ℕ). Some (n ∷ bytes)) (sym same))
    by false e ih = rw e (plain_step b (flat_map byte_in_quotes bytes ++ 39 ∷ []) e ∙ ap (put b) ih)

some_is : {a b : List ℕ} → some a ≡ some b → a ≡ b
some_is e = cc

none_is : {a : List ℕ} → none ≡ some a → ⊥
none_is e = cc

-- the bytes behind the first
put_is : (c : ℕ) (o : Option (List ℕ)) (bytes : List ℕ) → put c o ≡ Some bytes → (more : List ℕ) × (o ≡ Some more) × (bytes ≡ c ∷ more)
put_is c None bytes e = absurd cc
put_is c (Some more) bytes e = (more, refl, cc)

pub content_is : (body bytes : List ℕ) → content_of body ≡ Some bytes → body ≡ flat_map byte_in_quotes bytes ++ 39 ∷ []
content_is [] bytes e = absurd cc
content_is (c ∷ []) bytes e = by (eqb c 39) refl e
  where
    by : (t : Bool) → eqb c 39 ≡ t → cond t (Some []) None ≡ Some bytes → c ∷ [] ≡ flat_map byte_in_quotes bytes ++ 39 ∷ []
    by true t e = let none : [] ≡ bytes = cc in rw (← none) (ap (λ (n : ℕ). n ∷ []) (eqb-true c 39 t))
    by false t e = absurd cc
content_is (c ∷ d ∷ cs) bytes e = by (eqb c 39) refl e (content_is cs) (content_is (d ∷ cs))
  where
    quote : (t : Bool) → eqb d 39 ≡ t → c ≡ 39 → cond t (put 39 (content_of cs)) None ≡ Some bytes → ((more : List ℕ) → content_of cs ≡ Some more → cs ≡ flat_map byte_in_quotes more ++ 39 ∷ [])
        → c ∷ d ∷ cs ≡ flat_map byte_in_quotes bytes ++ 39 ∷ []
    quote true t same e ih =
        let p = put_is 39 (content_of cs) bytes e in
        rw (p.2, same, eqb-true d 39 t) (ap (λ (us : List ℕ). 39 ∷ 39 ∷ us) (ih p.0 p.1))
    quote false t same e ih = absurd cc

    by : (t : Bool) → eqb c 39 ≡ t → cond t (cond (eqb d 39) (put 39 (content_of cs)) None) (put c (content_of (d ∷ cs))) ≡ Some bytes
        → ((more : List ℕ) → content_of cs ≡ Some more → cs ≡ flat_map byte_in_quotes more ++ 39 ∷ [])
        → ((more : List ℕ) → content_of (d ∷ cs) ≡ Some more → d ∷ cs ≡ flat_map byte_in_quotes more ++ 39 ∷ [])
        → c ∷ d ∷ cs ≡ flat_map byte_in_quotes bytes ++ 39 ∷ []
    by true t e short long = quote (eqb d 39) refl (eqb-true c 39 t) e short
    by false t e short long =
        let p = put_is c (content_of (d ∷ cs)) bytes e in
        rw (p.2, t) (ap (λ (us : List ℕ). c ∷ us) (long p.0 p.1))

pub unquoted_is : (piece bytes : List ℕ) → quoted_content piece ≡ Some bytes → piece ≡ text_in_quotes bytes
unquoted_is [] bytes e = absurd cc
unquoted_is (c ∷ cs) bytes e = by (eqb c 39) refl e
  where
    by : (t : Bool) → eqb c 39 ≡ t → option_and_then content_of (cond t (Some cs) None) ≡ Some bytes → c ∷ cs ≡ text_in_quotes bytes
    by true t e = rw (eqb-true c 39 t, content_is cs bytes e) refl
    by false t e = absurd cc

pub unquoted_reads : (bytes : List ℕ) → quoted_content (text_in_quotes bytes) ≡ Some bytes
unquoted_reads bytes = content_reads bytes

-- the word of a text's bytes is that of the text in quotes
pub quoted_word : (piece bytes : List ℕ) (o : Option Word) → quoted_content piece ≡ Some bytes → MatchOption o (IsUtf8 bytes → ⊥) (IsTextWord bytes)
    → MatchOption o ((word : Word) → Spells kinds.Quoted 0 piece word → ⊥) (Spells kinds.Quoted 0 piece)
quoted_word piece bytes None e not_text = λ word (other, spelled, text).
    let same : other ≡ bytes = some_is (sym (unquoted_reads other) ∙ ap quoted_content (sym spelled) ∙ e) in
    not_text (subst IsUtf8 same text.2)
quoted_word piece bytes (Some word) e text = (bytes, unquoted_is piece bytes e, text)

pub no_word : (piece : List ℕ) → quoted_content piece ≡ None → (word : Word) → Spells kinds.Quoted 0 piece word → ⊥
no_word piece e word (other, spelled, more) = none_is (sym e ∙ ap quoted_content spelled ∙ unquoted_reads other)
