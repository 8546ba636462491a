-- Parts of a sum that are read one after another.
use Rattle.std.proofs.Common.{◌≡◌, ◌≤◌, List, [], ◌∷◌, ◌++◌, length, Some, refl, sym, ap, ◌∙◌, append_assoc, arith}
use Rattle.model_core.specs.declared.sum.Token.{Token}
use Rattle.model_core.specs.TermGrammar.{State, AfterMonomials, verdict}
use Rattle.model_reader.specs.Parsing.{Reads}

pub reads_then : (p q r : State) (a x b y c : List Token) → Reads p q a x b → Reads q r b y c → Reads p r a (x ++ y) c
reads_then p q r a x b y c first second = record {
  spelled = first.spelled ∙ ap (λ rest. x ++ rest) second.spelled ∙ sym (append_assoc x y c);
  same = first.same ∙ second.same;
}

-- after the last monomial no token can follow
pub wants_end : (tokens : List Token) → 1 ≤ length tokens → verdict AfterMonomials tokens ≡ Some (length tokens)
wants_end [] some = absurd (omega arith)
wants_end (token ∷ tokens) some = refl
