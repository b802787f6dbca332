pub mod Immediate
