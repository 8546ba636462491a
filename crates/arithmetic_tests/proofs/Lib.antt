mod ConstantLaws
