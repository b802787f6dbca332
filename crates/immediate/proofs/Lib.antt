pub mod ImmediateLands
