-- The certificates of the categories among the first parts, one part after others.
use Rattle.std.proofs.Common.{◌≡◌, ℕ, ◌+◌, ◌<◌, ◌≤◌, List, [], ◌∷◌, ◌++◌, Option, Some, None, length, take, get_or, refl, sym, ap, subst, ◌∙◌}
use Rattle.std.specs.Prelude.{option_to_list}
use Rattle.std.specs.List.{filter_map}
use Rattle.std.proofs.lemmas.List.{take_all, append-nil, flat_map_more}
use Rattle.std.proofs.lemmas.Slice.Zip.{all_zipped_more}
use Rattle.cap_names.specs.declared.literals.MorLit.{MorLit}
use Rattle.cap_grammar.specs.declared.tree.Over.{Over}
use Rattle.cap_grammar.specs.declared.tree.Item.{Item}
use Rattle.cap_grammar.specs.declared.tree.Item.TheVariants as top
use Rattle.cap_checked.specs.declared.tree.CheckedObj.{CheckedObj}
use Rattle.cap_check.specs.Unbuilt.{CheckedPart}
use Rattle.cap_registered.specs.Registrations.{Registered, category, categories_among}
use Rattle.cap_registered.specs.Certificates.{IsCertificate, AreCertificatesOf, AreCertificates}
use Rattle.cap_registered.proofs.Asks.{filter_map_more}

-- one more certificate
one_more : (rs : List Registered) (r : Registered) (text one : List ℕ) → AreCertificatesOf rs text → IsCertificate r one → AreCertificatesOf (rs ++ r ∷ []) (text ++ one)
one_more rs r text one were is = record {
  texts = were.texts ++ one ∷ [];
  each = all_zipped_more IsCertificate rs were.texts r one were.each is;
  text_is = ap (λ t. t ++ one) were.text_is ∙ flat_map_more (λ t. t) [] were.texts one;
}

pub none_yet : (parts : List CheckedPart) → AreCertificatesOf (categories_among parts []) []
none_yet parts = record { texts = []; each = tt; text_is = refl }

pub after_category : (parts xs : List CheckedPart) (i : ℕ) (x : CheckedPart) (r : Registered) (text one : List ℕ) → i < length xs → x ≡ get_or xs i x → category parts x.node ≡ Some r → AreCertificatesOf (categories_among parts (take i xs)) text → IsCertificate r one → AreCertificatesOf (categories_among parts (take (i + 1) xs)) (text ++ one)
after_category parts xs i x r text one h e some were is =
    let f : CheckedPart → Option Registered = λ p. category parts p.node in
    let more : filter_map f (take (i + 1) xs) ≡ filter_map f (take i xs) ++ r ∷ [] =
    filter_map_more f xs i x h e ∙ ap (λ o. filter_map f (take i xs) ++ option_to_list o) some in
    subst (λ rs. AreCertificatesOf rs (text ++ one)) (sym more) (one_more (filter_map f (take i xs)) r text one were is)

pub after_other : (parts xs : List CheckedPart) (i : ℕ) (x : CheckedPart) (text : List ℕ) → i < length xs → x ≡ get_or xs i x → category parts x.node ≡ None → AreCertificatesOf (categories_among parts (take i xs)) text → AreCertificatesOf (categories_among parts (take (i + 1) xs)) text
after_other parts xs i x text h e none were =
    let f : CheckedPart → Option Registered = λ p. category parts p.node in
    let same : filter_map f (take (i + 1) xs) ≡ filter_map f (take i xs) =
    filter_map_more f xs i x h e ∙ ap (λ o. filter_map f (take i xs) ++ option_to_list o) none ∙ append-nil (filter_map f (take i xs)) in
    subst (λ rs. AreCertificatesOf rs text) (sym same) were

pub after_all : (parts : List CheckedPart) (i : ℕ) (text : List ℕ) → length parts ≤ i → AreCertificatesOf (categories_among parts (take i parts)) text → AreCertificates parts text
after_all parts i text past were = subst (λ xs. AreCertificatesOf (categories_among parts xs) text) (take_all i parts past) were

-- a part that is no category
pub no_category : (parts : List CheckedPart) (item : Item CheckedObj MorLit) → ((name : List ℕ) (o : Over) → item ≡ top.Category name o → ⊥) → category parts item ≡ None
no_category parts (top.Block b) not = refl
no_category parts (top.Category name o) not = absurd (not name o refl)
no_category parts (top.Command c) not = refl
