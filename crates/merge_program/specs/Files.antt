-- What is read of the file of a command's publication, and of the input, each where it is told.
use Rattle.std.specs.Prelude.{Err, IfSome, List, Ok, Option, false, length, true, ℕ, ◌<◌, ◌≡◌, ◌≢◌, ◌≤◌, ◌⊎◌}
use Rattle.merge_types.specs.declared.identifiers.SiteId.{SiteId}
use Rattle.merge_ports.specs.Faults.{Rose}
use Rattle.merge_schema.specs.Answers.{IsAnswer}
use Rattle.merge_schema.specs.declared.fault.SchemaFault.{SchemaFault}
use Rattle.merge_schema.specs.declared.fault.SchemaFault.TheVariants.{NoMemory as Lacking}
use Rattle.merge_schema.specs.declared.publication.Publication.{Publication}
use Rattle.merge_schema.specs.Places.{is_subscription}
use Rattle.merge_model.specs.World.Events.{is_site}
use Rattle.merge_model.specs.World.Naming.{article_by}
use Rattle.merge_program.specs.declared.ending.Ending.{Ending}
use Rattle.merge_program.specs.declared.ending.Ending.TheVariants.{NoMemory, ReadFault, Refused, TooLong, UnknownArticle, UnknownSite}
use Rattle.merge_types.specs.Limits.{input_limit}

-- a text has more bytes than the limit
abbrev pub IsLong : Option (List ℕ) → Type 0
IsLong told = IfSome told (λ (text : List ℕ). input_limit < length text)

-- a text has no more
abbrev pub IsShort : Option (List ℕ) → Type 0
IsShort told = IfSome told (λ (text : List ℕ). length text ≤ input_limit)

-- why a text was not read
abbrev pub IsUnread : Ending → Option (List ℕ) → (reads failed : ℕ) → Type 0
IsUnread ReadFault told reads failed = Rose reads failed
IsUnread TooLong told reads failed = IsLong told
IsUnread NoMemory told reads failed = Unit {0}
IsUnread other told reads failed = ⊥

-- the text is that of this publication, where so many resolvers are handed in
pub record IsAccepted (resolvers : ℕ) (publication : Publication) (text : List ℕ) : Type 0 where
  pub fits : length text ≤ input_limit
  pub read : IsAnswer resolvers text (Ok publication)

-- the text is no publication, for this
pub record IsUnaccepted (resolvers : ℕ) (fault : SchemaFault) (text : List ℕ) : Type 0 where
  pub fits : length text ≤ input_limit
  pub read : IsAnswer resolvers text (Err fault)

-- why a text is no publication
abbrev pub IsUnpublished : Ending → (resolvers : ℕ) → List ℕ → Type 0
IsUnpublished (Refused fault) resolvers text = IsAnswer resolvers text (Err fault) × (fault ≢ Lacking)
IsUnpublished NoMemory resolvers text = Unit {0}
IsUnpublished other resolvers text = ⊥

-- the file is refused for this
pub record IsRefusedFile (told : Option (List ℕ)) (resolvers : ℕ) (fault : SchemaFault) : Type 0 where
  pub read : IfSome told (IsUnaccepted resolvers fault)
  pub known : fault ≢ Lacking

-- the file has this publication, of which the site is one
pub record HasSite (told : Option (List ℕ)) (resolvers : ℕ) (site : SiteId) (publication : Publication) : Type 0 where
  pub read : IfSome told (IsAccepted resolvers publication)
  pub known : is_site publication site ≡ true

-- the file has a publication, of which the site is none
pub record HasNoSite (told : Option (List ℕ)) (resolvers : ℕ) (site : SiteId) : Type 0 where
  pub publication : Publication
  pub read : IfSome told (IsAccepted resolvers publication)
  pub unknown : is_site publication site ≡ false

-- the file has a publication with the site, and with no such article
pub record HasNoArticle (told : Option (List ℕ)) (resolvers : ℕ) (site : SiteId) (name : List ℕ) : Type 0 where
  pub publication : Publication
  pub there : HasSite told resolvers site publication
  pub unknown : article_by publication name ≡ Err name

-- the file has this publication with the site, and the input is this script
pub record IsGiven (told input : Option (List ℕ)) (resolvers : ℕ) (site : SiteId) (publication : Publication) (script : List ℕ) : Type 0 where
  pub there : HasSite told resolvers site publication
  pub whole : IfSome input (λ (bytes : List ℕ). script ≡ bytes)
  pub fits : length script ≤ input_limit

-- Why there is no such publication or script: the file comes first, and where it cannot be read the input is not; then the input, then what
-- the file says. Texts failed from `before` to `after`, and reads of the input from `reads` to `failed`.
abbrev pub IsUngiven : Ending → (told input : Option (List ℕ)) → (resolvers : ℕ) → SiteId → (before after reads failed : ℕ) → Type 0
IsUngiven ReadFault told input resolvers site before after reads failed = (Rose before after × (failed ≡ reads)) ⊎ (IsShort told × Rose reads failed)
IsUngiven TooLong told input resolvers site before after reads failed = (IsLong told × (failed ≡ reads)) ⊎ (IsShort told × IsLong input)
IsUngiven (Refused fault) told input resolvers site before after reads failed = IsRefusedFile told resolvers fault × IsShort input
IsUngiven UnknownSite told input resolvers site before after reads failed = HasNoSite told resolvers site × IsShort input
IsUngiven NoMemory told input resolvers site before after reads failed = Unit {0}
IsUngiven other told input resolvers site before after reads failed = ⊥

-- the file has this publication with the site, and with the article at this place
pub record IsNamed (told : Option (List ℕ)) (resolvers : ℕ) (site : SiteId) (name : List ℕ) (publication : Publication) (article : ℕ) : Type 0 where
  pub there : HasSite told resolvers site publication
  pub named : article_by publication name ≡ Ok article

-- why there is no such publication or article
abbrev pub IsUnnamed : Ending → (told : Option (List ℕ)) → (resolvers : ℕ) → SiteId → (name : List ℕ) → (before after : ℕ) → Type 0
IsUnnamed ReadFault told resolvers site name before after = Rose before after
IsUnnamed TooLong told resolvers site name before after = IsLong told
IsUnnamed (Refused fault) told resolvers site name before after = IsRefusedFile told resolvers fault
IsUnnamed UnknownSite told resolvers site name before after = HasNoSite told resolvers site
IsUnnamed UnknownArticle told resolvers site name before after = HasNoArticle told resolvers site name
IsUnnamed NoMemory told resolvers site name before after = Unit {0}
IsUnnamed other told resolvers site name before after = ⊥

-- the file has this publication, of which the site is a subscription
pub record HasSubscription (told : Option (List ℕ)) (resolvers : ℕ) (site : SiteId) (publication : Publication) : Type 0 where
  pub read : IfSome told (IsAccepted resolvers publication)
  pub known : is_subscription publication site.0 ≡ true

-- the file has a publication, of which the site is no subscription
pub record HasNoSubscription (told : Option (List ℕ)) (resolvers : ℕ) (site : SiteId) : Type 0 where
  pub publication : Publication
  pub read : IfSome told (IsAccepted resolvers publication)
  pub unknown : is_subscription publication site.0 ≡ false

-- why there is no such publication or subscription
abbrev pub IsUnsubscribed : Ending → (told : Option (List ℕ)) → (resolvers : ℕ) → SiteId → (before after : ℕ) → Type 0
IsUnsubscribed ReadFault told resolvers site before after = Rose before after
IsUnsubscribed TooLong told resolvers site before after = IsLong told
IsUnsubscribed (Refused fault) told resolvers site before after = IsRefusedFile told resolvers fault
IsUnsubscribed UnknownSite told resolvers site before after = HasNoSubscription told resolvers site
IsUnsubscribed NoMemory told resolvers site before after = Unit {0}
IsUnsubscribed other told resolvers site before after = ⊥
