-- The tensor of a text at the places of a key: 0 where the component there has another content.
use Rattle.std.proofs.Common.{◌≡◌, ℕ, Bool, true, false, List, [], ◌∷◌, ◌++◌, map, Option, Some, None, refl, sym, ap, ap₂, ◌∙◌}
use Rattle.std.specs.Prelude.{◌==◌, ◌&&◌, not, if◌then◌else◌, slice_get}
use Rattle.std.specs.List.{AllByRecursion, AllZip}
use Rattle.std.specs.Str.{bytes_eq}
use Rattle.std.proofs.lemmas.List.{map-append}
use Rattle.std.proofs.lemmas.Slice.Eq.{bytes_eq-Decides}
use Rattle.exact_algebra.specs.Orders.{Rearranged}
use Rattle.frac128.specs.Rational.{zero_ℚ}
use Rattle.model_core.specs.declared.component_lists.FieldComponent.{FieldComponent}
use Rattle.model_core.specs.declared.content.FieldToken.{FieldToken}
use Rattle.model_core.specs.declared.content.FieldUse.{FieldUse}
use Rattle.model_core.specs.declared.field.Field.{Field}
use Rattle.model_core.specs.declared.model.Model.{Model}
use Rattle.model_core.specs.declared.term.Term.{Term}
use Rattle.model_core.specs.declared.term.TermKind.{TermKind}
use Rattle.model_core.specs.declared.term.TermKind.TheVariants.{Fermion, Scalar}
use Rattle.model_core.specs.BlockSide.{component_content, token_of}
use Rattle.model_core.specs.Component.{Component, same_side}
use Rattle.model_core.specs.ComponentLists.{fermion_list, scalar_list}
use Rattle.model_core.specs.Content.{conjugate_content, conjugate_token, content_at, is_real, sorted}
use Rattle.model_core.specs.Directions.{at_key, conjugated}
use Rattle.model_core.specs.Factors.{uses}
use Rattle.model_core.specs.MonomialValue.{stands_for}
use Rattle.model_core.specs.Scalar.{Coordinate, partner, partner_component, scalar_coordinates, swapped_pairs}
use Rattle.model_core.specs.Scalar.Coordinate.{Of, Dummy}
use Rattle.model_core.specs.TermTensor.{Numbers, all_ways, fermion_coordinates, fermion_ways, legs_of, projected, scalar_ways, value_or, with_coordinate}
use Rattle.model_core.specs.Valid.{are_distinct, field_name}
use Rattle.term_expand.proofs.ComponentTwins.{AreTwins, fermion_twins, scalar_twins}
use Rattle.direction_laws.proofs.Blocks.{tokens_twice}
use Rattle.direction_laws.proofs.Given.{IsMarked, Marked, Stands, marks, tokens}
use Rattle.direction_laws.proofs.SameUses.{number_itself, side_itself}
use Rattle.direction_laws.proofs.Sorting.{sorted_map}
use Rattle.direction_laws.proofs.TextZeros.{IsCopy, copied, fermion_zero, projected_zero, scalar_zero}

-- ---- what stands at a place

itself : (f : Field) (conj : Bool) (generation : ℕ) (c : Component) → f ≡ c.field → conj ≡ c.conj → generation ≡ c.generation → stands_for (Some f) conj generation c ≡ true
itself f conj generation c e s g =
    (λ i. (bytes_eq (e i).name c.field.name && same_side (s i) c.conj) && g i == c.generation)
    ∙ (λ i. (sym_names i && side_itself c.conj i) && number_itself c.generation i)
  where
    sym_names : bytes_eq c.field.name c.field.name ≡ true
    sym_names = (bytes_eq-Decides c.field.name c.field.name).1 refl

pub twin_stands : (fields : List Field) (m : Option FieldComponent) (c : Coordinate) → AreTwins fields m (Some c) → Stands fields m c
twin_stands fields None (Of c) twin = twin
twin_stands fields None Dummy twin = tt
twin_stands fields (Some x) Dummy twin = twin
twin_stands fields (Some x) (Of c) twin =
    ap (λ o. stands_for o x.conj x.generation c) twin.field ∙ itself c.field x.conj x.generation c refl twin.conj twin.generation

-- that of the partner
abbrev pub turned : Model → Option FieldComponent → Option FieldComponent
turned model None = None
turned model (Some x) = Some (record { field = x.field; conj = (if is_real (slice_get model.scalars x.field) then x.conj else not x.conj); generation = x.generation; slots = x.slots })

pub partner_stands : (model : Model) (m : Option FieldComponent) (c : Coordinate) → AreTwins model.scalars m (Some c) → Stands model.scalars (turned model m) (partner c)
partner_stands model None (Of c) twin = twin
partner_stands model None Dummy twin = tt
partner_stands model (Some x) Dummy twin = twin
partner_stands model (Some x) (Of c) twin =
    ap (λ o. stands_for o (if is_real o then x.conj else not x.conj) x.generation (partner_component c)) twin.field
    ∙ ap₂ (λ b g. stands_for (Some c.field) (if c.field.real then b else not b) g (partner_component c)) twin.conj twin.generation ∙ by_kind c.field.real
  where
    by_kind : (real : Bool) → stands_for (Some c.field) (if real then c.conj else not c.conj) c.generation (if real then record { field = c.field; conj = c.conj; generation = c.generation; values = swapped_pairs c.values } else record { field = c.field; conj = not c.conj; generation = c.generation; values = c.values }) ≡ true
    by_kind true = itself c.field c.conj c.generation (record { field = c.field; conj = c.conj; generation = c.generation; values = swapped_pairs c.values }) refl refl refl
    by_kind false = itself c.field (not c.conj) c.generation (record { field = c.field; conj = not c.conj; generation = c.generation; values = c.values }) refl refl refl

-- it has the conjugate token
turned_token : (model : Model) (m : Option FieldComponent) → token_of Scalar (turned model m) ≡ map (conjugate_token model) (token_of Scalar m)
turned_token model None = refl
turned_token model (Some x) = by_real (is_real (slice_get model.scalars x.field))
  where
    own : FieldToken
    own = record { kind = Scalar; field = x.field; conj = x.conj; generation = x.generation }

    by_real : (b : Bool) → (record { kind = Scalar; field = x.field; conj = (if b then x.conj else not x.conj); generation = x.generation } ∷ []) ≡ ((if b then own else record own { conj = not own.conj }) ∷ [])
    by_real true = refl
    by_real false = refl

turned_tokens : (model : Model) (ms : List (Option FieldComponent)) → marks Scalar (map (turned model) ms) ≡ map (conjugate_token model) (marks Scalar ms)
turned_tokens model [] = refl
turned_tokens model (m ∷ ms) = ap₂ ◌++◌ (turned_token model m) (turned_tokens model ms) ∙ sym (map-append (conjugate_token model) (token_of Scalar m) (marks Scalar ms))

-- the content with the scalars' partners, and its conjugate
turned_content : (model : Model) (fs : List FieldToken) (ms : List (Option FieldComponent)) (content : List FieldToken) → sorted (fs ++ marks Scalar (map (turned model) ms)) ≡ content
    → sorted (map (conjugate_token model) fs ++ marks Scalar ms) ≡ conjugate_content model content
turned_content model fs ms content e =
    let c = conjugate_token model in
    sym
    (ap (λ ts. sorted (map c ts)) (sym e) ∙ sorted_map c (fs ++ marks Scalar (map (turned model) ms)) ∙ ap (λ ts. sorted (map c (fs ++ ts))) (turned_tokens model ms)
    ∙ ap sorted (map-append c fs (map c (marks Scalar ms)) ∙ ap (λ ts. map c fs ++ ts) (tokens_twice model (marks Scalar ms))))

-- ---- keys

module _ (model : Model) (fermion_names : are_distinct (map field_name model.fermions) ≡ true) (scalar_names : are_distinct (map field_name model.scalars) ≡ true) (term : Term) (row column : ℕ) (first : List FieldUse) (each : AllByRecursion (λ m. Rearranged first (uses m.factors)) term.monomials) where
  -- the tensors of the two kinds
  abbrev fermion_tensor : Numbers
  fermion_tensor = projected model.groups (legs_of model Fermion) (fermion_ways model term row column)

  abbrev scalar_tensor : Numbers
  scalar_tensor = projected model.groups (legs_of model Scalar) (scalar_ways model term row column)

  at_fermions : (j k a : Marked) → IsMarked model.fermions j → IsMarked model.fermions k → IsMarked model.scalars a → (sorted (tokens Fermion (j ∷ k ∷ []) ++ tokens Scalar (a ∷ [])) ≡ content_at first row column → ⊥) → fermion_tensor (j.1 ∷ k.1 ∷ a.1 ∷ []) ≡ zero_ℚ
  at_fermions j k a mj mk ma others = projected_zero model.groups (legs_of model Fermion) (fermion_ways model term row column) (j.1 ∷ k.1 ∷ a.1 ∷ []) at_copies
    where
      at_copies : (ds : List Coordinate) → AllZip IsCopy ds (j.1 ∷ k.1 ∷ a.1 ∷ []) → fermion_ways model term row column ds ≡ zero_ℚ
      at_copies [] copies = absurd copies
      at_copies (dj ∷ []) copies = absurd copies.1
      at_copies (dj ∷ dk ∷ []) copies = absurd copies.1.1
      at_copies (dj ∷ dk ∷ da ∷ []) copies =
          fermion_zero model fermion_names scalar_names term row column first each (j.0, dj) (k.0, dk) (a.0, da) (copied model.fermions j.0 dj j.1 copies.0 mj) (copied model.fermions k.0 dk k.1 copies.1.0 mk) (copied model.scalars a.0 da a.1 copies.1.1.0 ma) others
      at_copies (dj ∷ dk ∷ da ∷ d ∷ ds) copies = absurd copies.1.1.1

  at_scalars : (a b c d : Marked) → IsMarked model.scalars a → IsMarked model.scalars b → IsMarked model.scalars c → IsMarked model.scalars d → (sorted (tokens Scalar (a ∷ b ∷ c ∷ d ∷ [])) ≡ content_at first row column → ⊥) → scalar_tensor (a.1 ∷ b.1 ∷ c.1 ∷ d.1 ∷ []) ≡ zero_ℚ
  at_scalars a b c d ma mb mc md others = projected_zero model.groups (legs_of model Scalar) (scalar_ways model term row column) (a.1 ∷ b.1 ∷ c.1 ∷ d.1 ∷ []) at_copies
    where
      at_copies : (ds : List Coordinate) → AllZip IsCopy ds (a.1 ∷ b.1 ∷ c.1 ∷ d.1 ∷ []) → scalar_ways model term row column ds ≡ zero_ℚ
      at_copies [] copies = absurd copies
      at_copies (da ∷ []) copies = absurd copies.1
      at_copies (da ∷ db ∷ []) copies = absurd copies.1.1
      at_copies (da ∷ db ∷ dc ∷ []) copies = absurd copies.1.1.1
      at_copies (da ∷ db ∷ dc ∷ dd ∷ []) copies =
          scalar_zero model fermion_names scalar_names term row column first each ((a.0, da) ∷ (b.0, db) ∷ (c.0, dc) ∷ (d.0, dd) ∷ [])
          (copied model.scalars a.0 da a.1 copies.0 ma, (copied model.scalars b.0 db b.1 copies.1.0 mb, (copied model.scalars c.0 dc c.1 copies.1.1.0 mc, (copied model.scalars d.0 dd d.1 copies.1.1.1.0 md, tt)))) others
      at_copies (da ∷ db ∷ dc ∷ dd ∷ d ∷ ds) copies = absurd copies.1.1.1.1

  -- what stands at the places of two fermions and a scalar
  three : (f : Numbers) (mj mk ma : Option FieldComponent) (oj ok oa : Option Coordinate) → AreTwins model.fermions mj oj → AreTwins model.fermions mk ok → AreTwins model.scalars ma oa
      → ((j k a : Coordinate) → AreTwins model.fermions mj (Some j) → AreTwins model.fermions mk (Some k) → AreTwins model.scalars ma (Some a) → f (j ∷ k ∷ a ∷ []) ≡ zero_ℚ)
      → value_or zero_ℚ f (with_coordinate oj (with_coordinate ok (with_coordinate oa (Some [])))) ≡ zero_ℚ
  three f mj mk ma None ok oa tj tk ta h = refl
  three f mj mk ma (Some j) None oa tj tk ta h = refl
  three f mj mk ma (Some j) (Some k) None tj tk ta h = refl
  three f mj mk ma (Some j) (Some k) (Some a) tj tk ta h = h j k a tj tk ta

  four : (f : Numbers) (ma mb mc md : Option FieldComponent) (oa ob oc od : Option Coordinate) → AreTwins model.scalars ma oa → AreTwins model.scalars mb ob → AreTwins model.scalars mc oc → AreTwins model.scalars md od
      → ((a b c d : Coordinate) → AreTwins model.scalars ma (Some a) → AreTwins model.scalars mb (Some b) → AreTwins model.scalars mc (Some c) → AreTwins model.scalars md (Some d) → f (a ∷ b ∷ c ∷ d ∷ []) ≡ zero_ℚ)
      → value_or zero_ℚ f (with_coordinate oa (with_coordinate ob (with_coordinate oc (with_coordinate od (Some []))))) ≡ zero_ℚ
  four f ma mb mc md None ob oc od ta tb tc td h = refl
  four f ma mb mc md (Some a) None oc od ta tb tc td h = refl
  four f ma mb mc md (Some a) (Some b) None od ta tb tc td h = refl
  four f ma mb mc md (Some a) (Some b) (Some c) None ta tb tc td h = refl
  four f ma mb mc md (Some a) (Some b) (Some c) (Some d) ta tb tc td h = h a b c d ta tb tc td

  -- keys with another number of places
  not_three : (f : Numbers) (places : List ℕ) → ((j k a : ℕ) → places ≡ j ∷ k ∷ a ∷ [] → at_key model Fermion f (j ∷ k ∷ a ∷ []) ≡ zero_ℚ) → at_key model Fermion f places ≡ zero_ℚ
  not_three f [] h = refl
  not_three f (j ∷ []) h = none (slice_get (fermion_coordinates model) j)
    where
      none : (o : Option Coordinate) → value_or zero_ℚ f (with_coordinate o None) ≡ zero_ℚ
      none None = refl
      none (Some c) = refl
  not_three f (j ∷ k ∷ []) h = none (slice_get (fermion_coordinates model) j) (slice_get (fermion_coordinates model) k)
    where
      none : (o p : Option Coordinate) → value_or zero_ℚ f (with_coordinate o (with_coordinate p None)) ≡ zero_ℚ
      none None p = refl
      none (Some c) None = refl
      none (Some c) (Some d) = refl
  not_three f (j ∷ k ∷ a ∷ []) h = h j k a refl
  not_three f (j ∷ k ∷ a ∷ b ∷ places) h = none (slice_get (fermion_coordinates model) j) (slice_get (fermion_coordinates model) k) (slice_get (scalar_coordinates model) a)
    where
      none : (o p q : Option Coordinate) → value_or zero_ℚ f (with_coordinate o (with_coordinate p (with_coordinate q None))) ≡ zero_ℚ
      none None p q = refl
      none (Some c) None q = refl
      none (Some c) (Some d) None = refl
      none (Some c) (Some d) (Some e) = refl

  not_four : (f : Numbers) (places : List ℕ) → ((a b c d : ℕ) → places ≡ a ∷ b ∷ c ∷ d ∷ [] → at_key model Scalar f (a ∷ b ∷ c ∷ d ∷ []) ≡ zero_ℚ) → at_key model Scalar f places ≡ zero_ℚ
  not_four f [] h = refl
  not_four f (a ∷ []) h = none (slice_get (scalar_coordinates model) a)
    where
      none : (o : Option Coordinate) → value_or zero_ℚ f (with_coordinate o None) ≡ zero_ℚ
      none None = refl
      none (Some c) = refl
  not_four f (a ∷ b ∷ []) h = none (slice_get (scalar_coordinates model) a) (slice_get (scalar_coordinates model) b)
    where
      none : (o p : Option Coordinate) → value_or zero_ℚ f (with_coordinate o (with_coordinate p None)) ≡ zero_ℚ
      none None p = refl
      none (Some c) None = refl
      none (Some c) (Some d) = refl
  not_four f (a ∷ b ∷ c ∷ []) h = none (slice_get (scalar_coordinates model) a) (slice_get (scalar_coordinates model) b) (slice_get (scalar_coordinates model) c)
    where
      none : (o p q : Option Coordinate) → value_or zero_ℚ f (with_coordinate o (with_coordinate p (with_coordinate q None))) ≡ zero_ℚ
      none None p q = refl
      none (Some c) None q = refl
      none (Some c) (Some d) None = refl
      none (Some c) (Some d) (Some e) = refl
  not_four f (a ∷ b ∷ c ∷ d ∷ []) h = h a b c d refl
  not_four f (a ∷ b ∷ c ∷ d ∷ e ∷ places) h =
      none (slice_get (scalar_coordinates model) a) (slice_get (scalar_coordinates model) b) (slice_get (scalar_coordinates model) c) (slice_get (scalar_coordinates model) d)
    where
      none : (o p q r : Option Coordinate) → value_or zero_ℚ f (with_coordinate o (with_coordinate p (with_coordinate q (with_coordinate r None)))) ≡ zero_ℚ
      none None p q r = refl
      none (Some c) None q r = refl
      none (Some c) (Some d) None r = refl
      none (Some c) (Some d) (Some e) None = refl
      none (Some c) (Some d) (Some e) (Some g) = refl

  -- ---- both kinds, on both sides

  plain_three : (j k a : ℕ) → (component_content model Fermion (0 ∷ j ∷ k ∷ a ∷ []) ≡ content_at first row column → ⊥) → at_key model Fermion fermion_tensor (j ∷ k ∷ a ∷ []) ≡ zero_ℚ
  plain_three j k a others =
      let mj = slice_get (fermion_list model) j in
      let mk = slice_get (fermion_list model) k in
      let ma = slice_get (scalar_list model) a in
      three fermion_tensor mj mk ma (slice_get (fermion_coordinates model) j) (slice_get (fermion_coordinates model) k) (slice_get (scalar_coordinates model) a) (fermion_twins model j) (fermion_twins model k) (scalar_twins model a)
      (λ cj ck ca tj tk ta. at_fermions (mj, cj) (mk, ck) (ma, ca) (twin_stands model.fermions mj cj tj) (twin_stands model.fermions mk ck tk) (twin_stands model.scalars ma ca ta) others)

  turned_three : (j k a : ℕ) → (component_content model Fermion (1 ∷ j ∷ k ∷ a ∷ []) ≡ conjugate_content model (content_at first row column) → ⊥) → at_key model Fermion (conjugated Fermion fermion_tensor) (j ∷ k ∷ a ∷ []) ≡ zero_ℚ
  turned_three j k a others =
      let mj = slice_get (fermion_list model) j in
      let mk = slice_get (fermion_list model) k in
      let ma = slice_get (scalar_list model) a in
      three (conjugated Fermion fermion_tensor) mj mk ma (slice_get (fermion_coordinates model) j) (slice_get (fermion_coordinates model) k) (slice_get (scalar_coordinates model) a) (fermion_twins model j) (fermion_twins model k) (scalar_twins model a)
      (λ cj ck ca tj tk ta. at_fermions (mj, cj) (mk, ck) (turned model ma, partner ca) (twin_stands model.fermions mj cj tj) (twin_stands model.fermions mk ck tk) (partner_stands model ma ca ta)
      (λ same. others (turned_content model (marks Fermion (mj ∷ mk ∷ [])) (ma ∷ []) (content_at first row column) same)))

  plain_four : (a b c d : ℕ) → (component_content model Scalar (0 ∷ a ∷ b ∷ c ∷ d ∷ []) ≡ content_at first row column → ⊥) → at_key model Scalar scalar_tensor (a ∷ b ∷ c ∷ d ∷ []) ≡ zero_ℚ
  plain_four a b c d others =
      let m : ℕ → Option FieldComponent = λ place. slice_get (scalar_list model) place in
      let o : ℕ → Option Coordinate = λ place. slice_get (scalar_coordinates model) place in
      four scalar_tensor (m a) (m b) (m c) (m d) (o a) (o b) (o c) (o d) (scalar_twins model a) (scalar_twins model b) (scalar_twins model c) (scalar_twins model d)
      (λ ca cb ce cd ta tb tc td. at_scalars (m a, ca) (m b, cb) (m c, ce) (m d, cd) (twin_stands model.scalars (m a) ca ta) (twin_stands model.scalars (m b) cb tb) (twin_stands model.scalars (m c) ce tc) (twin_stands model.scalars (m d) cd td) others)

  turned_four : (a b c d : ℕ) → (component_content model Scalar (1 ∷ a ∷ b ∷ c ∷ d ∷ []) ≡ conjugate_content model (content_at first row column) → ⊥) → at_key model Scalar (conjugated Scalar scalar_tensor) (a ∷ b ∷ c ∷ d ∷ []) ≡ zero_ℚ
  turned_four a b c d others =
      let m : ℕ → Option FieldComponent = λ place. slice_get (scalar_list model) place in
      let o : ℕ → Option Coordinate = λ place. slice_get (scalar_coordinates model) place in
      four (conjugated Scalar scalar_tensor) (m a) (m b) (m c) (m d) (o a) (o b) (o c) (o d) (scalar_twins model a) (scalar_twins model b) (scalar_twins model c) (scalar_twins model d)
      (λ ca cb ce cd ta tb tc td. at_scalars (turned model (m a), partner ca) (turned model (m b), partner cb) (turned model (m c), partner ce) (turned model (m d), partner cd)
      (partner_stands model (m a) ca ta) (partner_stands model (m b) cb tb) (partner_stands model (m c) ce tc) (partner_stands model (m d) cd td)
      (λ same. others (turned_content model [] (m a ∷ m b ∷ m c ∷ m d ∷ []) (content_at first row column) same)))

  -- other content than the cell's on side 0
  pub plain_zero : (kind : TermKind) (places : List ℕ) → (component_content model kind (0 ∷ places) ≡ content_at first row column → ⊥) → at_key model kind (projected model.groups (legs_of model kind) (all_ways model term row column kind)) places ≡ zero_ℚ
  plain_zero Fermion places others =
      not_three fermion_tensor places (λ j k a e. plain_three j k a (λ same. others (ap (λ ps. component_content model Fermion (0 ∷ ps)) e ∙ same)))
  plain_zero Scalar places others =
      not_four scalar_tensor places (λ a b c d e. plain_four a b c d (λ same. others (ap (λ ps. component_content model Scalar (0 ∷ ps)) e ∙ same)))

  -- other content than the conjugate one on side 1
  pub turned_zero : (kind : TermKind) (places : List ℕ) → (component_content model kind (1 ∷ places) ≡ conjugate_content model (content_at first row column) → ⊥)
      → at_key model kind (conjugated kind (projected model.groups (legs_of model kind) (all_ways model term row column kind))) places ≡ zero_ℚ
  turned_zero Fermion places others =
      not_three (conjugated Fermion fermion_tensor) places (λ j k a e. turned_three j k a (λ same. others (ap (λ ps. component_content model Fermion (1 ∷ ps)) e ∙ same)))
  turned_zero Scalar places others =
      not_four (conjugated Scalar scalar_tensor) places (λ a b c d e. turned_four a b c d (λ same. others (ap (λ ps. component_content model Scalar (1 ∷ ps)) e ∙ same)))
