-- The standard's example, by computing: the digest of `abc` and its text, in either case.
use Rattle.std.proofs.Common.{◌≡◌, Some, codes, refl}
use Rattle.hex.specs.Hex.{decode_pairs, encode_with}
use Rattle.sha2.proofs.Facts256.{digest_of_abc_256}
use Rattle.digest_gate.specs.Digest.{digest_in, digest_of, text_of}

-- the text in which it is printed
text_of_abc : text_of (digest_of (codes "abc")) ≡ codes "ba7816bf8f01cfea414140de5dae2223b00361a396177a9cb410ff61f20015ad"
unfolding encode_with
text_of_abc = rw digest_of_abc_256 refl

-- in upper case it is read as well
digest_in_upper_case : digest_in (codes "BA7816BF8F01CFEA414140DE5DAE2223B00361A396177A9CB410FF61F20015AD") ≡ Some (digest_of (codes "abc"))
unfolding decode_pairs
digest_in_upper_case = rw digest_of_abc_256 refl
